pub mod Works
pub mod Gates
pub mod Sets
pub mod Back
