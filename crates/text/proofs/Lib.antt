pub mod Putting
pub mod Decimals
pub mod Hopping
pub mod Placing
