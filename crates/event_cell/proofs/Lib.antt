pub mod Keeps
pub mod Codes
