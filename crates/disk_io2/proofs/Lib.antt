mod Faults
mod Serving
mod Ended
pub mod ReadOff
