mod Fed
pub mod Spelled
mod Held
pub mod Heard
