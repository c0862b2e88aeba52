mod AllDone
mod Clients
mod Collecting
mod Costs
mod Ending
mod Enough
mod Faultless
mod Finished
pub mod FreshLemmas
mod Fronts
mod Gathering
mod Leading
mod Lefts
mod Rounds
mod Rows
mod Stills
mod Stepping
mod Taking
