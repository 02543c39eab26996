pub mod Numbers
pub mod Messages
pub mod Lengths
pub mod Spelled
