mod Scribing
pub mod Endings
pub mod Outcomes
pub mod Prefixes
mod Pieces
pub mod Readings
pub mod Announcing
