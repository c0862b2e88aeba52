pub mod Rounding
pub mod Tiling
pub mod Tiled
pub mod Units
pub mod Shared
pub mod Listing
