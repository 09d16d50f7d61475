pub mod Given
pub mod Newest
pub mod Numbers
pub mod Orders
pub mod Steps
pub mod Tables
pub mod Worlds
