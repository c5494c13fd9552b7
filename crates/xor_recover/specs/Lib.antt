pub mod Finds
pub mod Rows
pub mod Groups
pub mod Entries
pub mod Starts
pub mod Wholes
