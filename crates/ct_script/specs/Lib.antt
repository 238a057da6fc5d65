pub mod Feed
pub mod Grammar
pub mod Script
pub mod Shows
pub mod Texts
