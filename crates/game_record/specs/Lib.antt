pub mod Game
pub mod Ending
pub mod Line
pub mod Keeps
