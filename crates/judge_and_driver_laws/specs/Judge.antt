pub mod Logs
pub mod Tapped
pub mod Scripts
