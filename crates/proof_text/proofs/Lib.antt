pub mod StepLaws
pub mod ToldLaws
