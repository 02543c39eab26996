pub mod Meaning
pub mod Message
pub mod Rule
pub mod Ends
pub mod Events
pub mod Counts
pub mod Arrivals
