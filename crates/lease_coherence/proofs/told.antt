pub mod BreaksMet
pub mod BreaksStayTold
pub mod Clients
pub mod Lone
pub mod Meets
pub mod Moves
pub mod Servers
