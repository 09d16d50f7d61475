pub mod Linked
pub mod Numbered
pub mod records
pub mod worlds
