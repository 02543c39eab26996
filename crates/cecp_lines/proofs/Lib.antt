pub mod Officers
pub mod LineTokens
pub mod Tables
pub mod Spellings
pub mod Complete
pub mod Quits
pub mod Answered
pub mod Lengths
