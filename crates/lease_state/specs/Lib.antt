pub mod Access
pub mod Content
pub mod Laws
pub mod Rules
pub mod State
pub mod Status
