pub mod DialogueEvents
pub mod Played
pub mod Engines
pub mod Crossings
pub mod Talks
pub mod Rules
pub mod Clean
