pub mod Line
pub mod Last
pub mod Kept
pub mod Short
