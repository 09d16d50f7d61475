pub mod Commands
pub mod Files
pub mod Links
pub mod Replies
pub mod Turns
