pub mod Finishing
pub mod Laws
pub mod Leading
pub mod Plain
pub mod Serving
