pub mod Relations
pub mod Tidied
pub mod Below
pub mod Parts
pub mod Hints
pub mod Runs
