pub mod Drives
pub mod Lends
