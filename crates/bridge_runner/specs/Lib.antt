pub mod Texts
pub mod Plays
pub mod Recorded
pub mod Bridged
pub mod Laws
pub mod Program
