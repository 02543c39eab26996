mod Lines
mod Migrations
mod Traces
pub mod Playing
pub mod Again
pub mod Revivals
mod Spelled
mod DrivenAgain
mod Reading
mod Statuses
