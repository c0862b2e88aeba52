pub mod Limits
pub mod Fields
pub mod Header
pub mod Array
pub mod Name
pub mod Entry
pub mod Spans
