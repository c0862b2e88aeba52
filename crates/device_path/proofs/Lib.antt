pub mod Nodes
pub mod Parts
pub mod Texts
pub mod Plain
pub mod ReadBack
