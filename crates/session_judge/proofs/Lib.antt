pub mod Differences
mod Lines
mod Thinking
mod Quiet
