pub mod MentionLaws
pub mod ScanLaws
pub mod TurnLaws
pub mod Puts
pub mod SettlingLaws
pub mod JudgingLaws
pub mod PrintedLaws
mod DecidingLaws
mod LineLaws
