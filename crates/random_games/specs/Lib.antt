pub mod Generator
pub mod Rounds
pub mod Tally
pub mod Played
pub mod Sent
pub mod Stood
pub mod Alike
