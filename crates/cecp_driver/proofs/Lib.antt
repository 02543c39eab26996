mod Good
mod Heard
mod Lasting
mod Acting
mod Moves
mod Puts
mod Pushing
pub mod Scripts
mod OwnMoves
mod EngineGames
pub mod EngineRuns
mod Mute
mod Starts
mod Pinged
mod Fed
mod Names
mod Called
mod Sayable
mod Busy
mod Playing
mod Quitting
pub mod Sound
pub mod OneRun
mod Prompting
