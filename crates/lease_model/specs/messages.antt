pub mod FromBytes
pub mod Replies
pub mod Requests
pub mod ToBytes
