pub mod Turns
pub mod Meaning
pub mod First
pub mod Looped
pub mod Reached
pub mod Ran
pub mod Mediated
pub mod Recorded
