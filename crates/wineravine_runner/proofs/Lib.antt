mod Cases
pub mod LastPart
pub mod LogLetters
mod Opening
mod Parts
