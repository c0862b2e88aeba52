pub mod Node
pub mod Text
pub mod Reading
