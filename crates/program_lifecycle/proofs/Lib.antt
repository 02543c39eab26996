mod Writes
pub mod Took
pub mod Asked
pub mod Causes
pub mod ByArguments
pub mod Closes
pub mod Counts
mod CountsFault
pub mod Reporting
pub mod Early
pub mod Logs
