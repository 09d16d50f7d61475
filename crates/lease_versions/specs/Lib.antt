pub mod Layer
pub mod Arriving
pub mod Asking
pub mod Rows
pub mod Kept
pub mod Laws
pub mod Refusals
pub mod Sent
