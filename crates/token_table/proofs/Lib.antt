pub mod RecordsLemmas
mod Index
