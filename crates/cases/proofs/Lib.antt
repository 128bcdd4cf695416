pub mod Cases
pub mod Computes
