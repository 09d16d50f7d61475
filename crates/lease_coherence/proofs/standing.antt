pub mod Clients
pub mod OpensStayStanding
pub mod Servers
pub mod Standing
pub mod StandingOpens
