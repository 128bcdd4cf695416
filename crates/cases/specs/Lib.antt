pub mod FabricF
pub mod Worked
