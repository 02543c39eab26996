pub mod Loops
mod Joins
mod Opens
mod Runs
pub mod Firsts
mod Starts
pub mod Wholes
