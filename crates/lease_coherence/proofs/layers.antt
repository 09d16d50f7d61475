pub mod AllRuns
pub mod Layers
