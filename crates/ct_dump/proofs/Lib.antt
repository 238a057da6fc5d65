pub mod Dumps
pub mod Entered
pub mod Holes
pub mod Pieces
pub mod Places
pub mod Rests
