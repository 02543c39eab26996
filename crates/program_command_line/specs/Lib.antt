pub mod Arguments
pub mod Streams
