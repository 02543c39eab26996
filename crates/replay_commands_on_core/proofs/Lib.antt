mod Opens
pub mod Answers
pub mod Listing
mod CommandNames
mod Words
mod Chosen
mod ProperHeaders
mod StageLines
mod Checks
mod Places
mod Numbers
mod Checkers
mod Audits
mod Faults
pub mod Verdicts
mod Replayed
mod Ended
pub mod Drilling
mod Finishes
mod HeaderLines
pub mod OwnTalk
pub mod OwnMigrations
