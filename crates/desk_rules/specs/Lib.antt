pub mod Early
pub mod Desk
pub mod Lines
pub mod Steps
pub mod Orders
pub mod Replies
pub mod Texts
pub mod Fits
