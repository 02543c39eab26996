pub mod GameSan
pub mod GameText
pub mod Fit
pub mod LongForm
pub mod Spelling
pub mod Writing
