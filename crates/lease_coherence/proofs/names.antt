pub mod Clients
pub mod Done
pub mod NamedInRecord
pub mod Names
