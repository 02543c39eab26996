pub mod Found
pub mod Built
pub mod Gives
pub mod Made
pub mod Replies
pub mod Reading
pub mod Sessions
pub mod Hearing
