pub mod Stepped
pub mod Numbers
mod Sessions
pub mod Came
pub mod Outcomes
pub mod Followed
mod Texts
pub mod Stays
pub mod Written
mod PositionTexts
pub mod PositionsAgain
