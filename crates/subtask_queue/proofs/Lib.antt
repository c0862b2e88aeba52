pub mod SubsLemmas
mod Holding
mod Pushing
mod Moving
mod Live
mod Walks
mod Leading
mod Behind
mod Places
mod Ends
