pub mod Device
pub mod Images
pub mod Phase
pub mod Ram
