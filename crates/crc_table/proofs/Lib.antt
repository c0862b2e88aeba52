pub mod Rests
pub mod Registers
pub mod LookUps
