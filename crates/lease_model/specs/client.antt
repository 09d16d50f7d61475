pub mod Calls
pub mod Commanded
pub mod Commands
pub mod Connection
pub mod Requests
pub mod State
pub mod Step
pub mod Taken
