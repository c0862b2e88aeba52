pub mod Patched
pub mod Patches
