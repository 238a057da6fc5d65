pub mod Extents
pub mod Heading
pub mod Zeros
