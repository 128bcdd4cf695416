pub mod Framing
pub mod Printed
