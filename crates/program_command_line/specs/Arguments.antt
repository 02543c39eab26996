pub mod About
pub mod Request
pub mod Room
