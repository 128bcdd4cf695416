pub mod Hops
pub mod Trails
pub mod Ways
