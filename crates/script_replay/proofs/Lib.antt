pub mod Hearing
pub mod LineFaults
pub mod Players
pub mod Plays
pub mod VersionLines
