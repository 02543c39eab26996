pub mod Seen
pub mod Squares
pub mod Fields
pub mod RookFiles
pub mod CastlingField
pub mod Fen
pub mod Written
