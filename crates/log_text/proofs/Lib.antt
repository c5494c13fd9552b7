pub mod Lines
pub mod TwoLists
pub mod StepLaws
pub mod EventLists
pub mod ToldLaws
