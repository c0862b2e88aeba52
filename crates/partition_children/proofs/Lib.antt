pub mod Inside
mod Gets
mod Served
mod Staying
mod ReadBack
mod ReadAnswers
mod ReadAllowed
mod Stages
mod Places
mod Entries
mod Records
mod Logicals
mod LogicalsRead
mod Tables
mod Targets
mod Headers
mod Endings
mod Numbers
