pub mod Calls
pub mod Edge
pub mod Place
pub mod Slots
pub mod Streams
