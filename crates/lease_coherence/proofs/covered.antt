pub mod Asked
pub mod Clients
pub mod CoveredOpens
pub mod Moves
pub mod OpensStayCovered
pub mod Uses
