pub mod Legal
pub mod Heard
pub mod Lines
pub mod Hints
pub mod Short
pub mod Rivals
pub mod Forms
pub mod Replies
