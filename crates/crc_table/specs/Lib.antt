pub mod Division
pub mod Crc32
pub mod Registers
