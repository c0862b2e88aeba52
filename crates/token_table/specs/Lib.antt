pub mod Records
pub mod Index
