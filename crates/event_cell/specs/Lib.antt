pub mod EventWord
pub mod Rule
pub mod Ends
