pub mod Saturating
pub mod StandingLaws
pub mod SettlingLaws
pub mod JudgedLaws
pub mod MarkingLaws
pub mod KeptLaws
