pub mod Texts
pub mod ReplyReading
pub mod SanReading
