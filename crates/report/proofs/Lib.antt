pub mod Frames
pub mod Telling
