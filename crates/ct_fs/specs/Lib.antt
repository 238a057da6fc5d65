pub mod Mounts
pub mod Remembering
