pub mod Lines
pub mod Scripts
pub mod Numbered
pub mod Short
