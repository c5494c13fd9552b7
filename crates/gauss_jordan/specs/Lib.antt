pub mod Rows
pub mod System
pub mod Right
pub mod Found
pub mod Slots
pub mod Stored
