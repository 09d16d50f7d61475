pub mod Later
pub mod Once
