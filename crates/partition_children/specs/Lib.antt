pub mod Children
pub mod Law
pub mod Reads
pub mod Entries
pub mod Probing
