pub mod Header
pub mod Kinds
pub mod Marks
pub mod Scripts
pub mod StepLine
pub mod StepText
