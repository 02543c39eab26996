pub mod Wire
pub mod Runs
