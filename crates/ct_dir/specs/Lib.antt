pub mod Directory
pub mod Keys
pub mod Nearest
pub mod Packed
pub mod Reading
pub mod Sorting
