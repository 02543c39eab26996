mod Splits
mod Records
mod Refused
mod Logs
mod Passes
mod Runs
mod Starts
