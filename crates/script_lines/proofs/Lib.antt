pub mod Headers
pub mod KindLemmas
pub mod Numerals
pub mod Rooms
pub mod Spelled
pub mod Scripts
