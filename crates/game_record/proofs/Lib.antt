pub mod Replays
pub mod Sames
pub mod Times
pub mod Recent
pub mod Courses
pub mod States
pub mod Lines
