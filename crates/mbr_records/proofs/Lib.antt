pub mod Visits
pub mod Fitting
