pub mod Directories
pub mod Entries
pub mod Files
pub mod Kinds
pub mod Nodes
pub mod Places
pub mod Spots
