pub mod Calls
pub mod Ends
pub mod Passes
pub mod Steps
pub mod Tries
