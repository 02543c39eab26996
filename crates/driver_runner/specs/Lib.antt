pub mod HeardEvents
pub mod Drives
pub mod Recorded
pub mod Driven
pub mod Laws
pub mod Program
