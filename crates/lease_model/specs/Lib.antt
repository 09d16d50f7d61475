pub mod client
pub mod messages
pub mod records
pub mod server
pub mod values
pub mod worked
pub mod world
