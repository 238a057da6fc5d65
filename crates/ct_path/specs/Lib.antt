pub mod Left
pub mod Meets
pub mod Resolves
