pub mod Record
pub mod Block
pub mod Chain
