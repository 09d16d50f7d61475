pub mod Calls
pub mod Exact
pub mod Once
pub mod Told
