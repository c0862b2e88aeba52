pub mod Lying
pub mod Numbers
pub mod Following
