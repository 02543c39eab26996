pub mod EngineNames
pub mod Measured
pub mod Rooms
