pub mod Kinds
pub mod Lines
pub mod Views
pub mod Speaks
pub mod Said
pub mod Again
