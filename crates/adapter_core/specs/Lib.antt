pub mod Alone
pub mod Ends
pub mod Lending
pub mod Shown
pub mod Represents
pub mod Trace
pub mod Parts
