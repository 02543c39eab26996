pub mod Appends
pub mod Stays
mod ReadSteps
pub mod HearSteps
mod SettledSteps
mod LifeSteps
mod DrainSteps
mod CountSteps
mod CloseSteps
mod TurnSteps
mod LoopSteps
mod EndSteps
mod Records
mod RunSteps
mod Refused
mod Digits
