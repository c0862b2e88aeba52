pub mod Blocks
pub mod MbrTable
pub mod GptTable
pub mod Table
pub mod Law
pub mod Rows
