pub mod Feasible
pub mod Filtered
pub mod Orders
pub mod Places
pub mod Positions
