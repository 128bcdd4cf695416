pub mod Ascii
pub mod Put
pub mod Text
pub mod Room
