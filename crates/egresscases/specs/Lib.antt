pub mod Egress
