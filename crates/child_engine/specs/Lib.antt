pub mod Asked
pub mod Closing
pub mod Hosts
pub mod Input
pub mod Memory
pub mod Places
pub mod Real
pub mod Steady
