pub mod MediaOf
