pub mod Calm
pub mod Going
pub mod Keeping
pub mod Standing
pub mod Taking
pub mod Tracing
