pub mod Refusing
pub mod Replying
pub mod TakenByHeld
