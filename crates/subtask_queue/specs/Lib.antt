pub mod Subs
pub mod Owned
pub mod Firsts
