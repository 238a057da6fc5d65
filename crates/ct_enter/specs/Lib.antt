pub mod Entry
pub mod Landing
pub mod Makes
pub mod Plans
