pub mod Lines
pub mod LineLaws
pub mod Taking
pub mod Told
pub mod ToldEvents
pub mod ToldLines
