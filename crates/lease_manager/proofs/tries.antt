pub mod Answering
pub mod Arriving
pub mod Breaking
pub mod Calling
pub mod Ending
pub mod Homing
pub mod Rounds
