pub mod Choices
pub mod Data
pub mod Names
pub mod Settings
pub mod Shown
pub mod Spelled
pub mod Stored
pub mod Styles
