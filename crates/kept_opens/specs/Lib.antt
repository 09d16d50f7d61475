pub mod Entry
pub mod Kept
pub mod Laws
pub mod Managers
