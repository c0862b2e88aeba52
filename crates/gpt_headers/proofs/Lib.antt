pub mod Powers
pub mod Places
pub mod Inside
pub mod Sweep
pub mod SpanLists
