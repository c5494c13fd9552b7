pub mod WordLaws
pub mod Steps
pub mod Sizes
pub mod Meeting
pub mod Whole
