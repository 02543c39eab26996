pub mod Clocks
pub mod Search
