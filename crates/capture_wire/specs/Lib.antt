pub mod Fields
pub mod Faults
pub mod Contexts
pub mod Header
pub mod Connecting
pub mod Files
pub mod Creates
pub mod Messages
