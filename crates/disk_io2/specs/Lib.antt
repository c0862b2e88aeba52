pub mod Blocking
pub mod Views
