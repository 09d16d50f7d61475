pub mod Agreeing
pub mod Heights
pub mod Shown
