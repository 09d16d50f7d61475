pub mod Keys
pub mod LeaseStates
pub mod Limits
pub mod Lists
pub mod Patches
pub mod Sharing
pub mod Tables
