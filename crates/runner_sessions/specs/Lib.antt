pub mod Ready
pub mod Talking
