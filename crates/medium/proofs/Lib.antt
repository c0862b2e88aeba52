pub mod Held
pub mod Listed
pub mod Overlays
pub mod Restored
pub mod Runs
pub mod Sizes
pub mod Written
