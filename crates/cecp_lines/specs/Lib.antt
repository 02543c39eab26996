pub mod Messages
pub mod Words
pub mod Reading
pub mod San
pub mod Losses
pub mod Replies
pub mod Quit
