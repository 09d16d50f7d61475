pub mod About
pub mod Asked
pub mod Calls
pub mod Changes
pub mod Coming
pub mod Fields
pub mod Listed
pub mod Restarting
