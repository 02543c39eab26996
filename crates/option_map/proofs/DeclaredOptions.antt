pub mod HeardOptions
pub mod Lists
pub mod Pieces
pub mod Short
pub mod Usable
pub mod ValueTokens
pub mod Values
