pub mod Agreeing
pub mod Recovered
pub mod Judged
