pub mod Reading
pub mod Judgements
pub mod Grows
mod Blames
