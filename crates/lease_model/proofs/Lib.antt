pub mod ClientComputes
pub mod RecordsCompute
pub mod ServerComputes
pub mod ValuesCompute
pub mod WorldComputes
