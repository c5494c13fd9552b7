pub mod AheadLaws
pub mod AnswerLaws
mod ByEight
pub mod Choices
pub mod Given
pub mod Places
pub mod Puts
pub mod ReadingLaws
pub mod ShortLaws
pub mod SlotLaws
pub mod SlotSteps
pub mod StepIntegers
pub mod Taken
pub mod TakingLaws
