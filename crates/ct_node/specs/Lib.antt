pub mod Listed
pub mod Places
pub mod TreeCode
pub mod TreeFalls
