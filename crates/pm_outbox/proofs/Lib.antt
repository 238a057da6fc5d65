pub mod Fronts
pub mod Marks
pub mod Medium
pub mod Start
