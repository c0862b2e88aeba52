pub mod LinkedListsLemmas
mod Places
mod Paths
mod Calls
