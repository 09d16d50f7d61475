pub mod Held
pub mod Contexts
pub mod Appended
