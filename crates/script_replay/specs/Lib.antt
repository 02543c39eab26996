pub mod Playing
pub mod Replaying
pub mod Stages
pub mod Versions
