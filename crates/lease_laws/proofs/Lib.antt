pub mod Words
pub mod client
pub mod messages
pub mod records
pub mod refusals
pub mod server
pub mod world
