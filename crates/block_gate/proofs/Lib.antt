pub mod GatesLemmas
mod Walks
mod Moves
mod Steps
mod Views
mod Found
mod Calls
