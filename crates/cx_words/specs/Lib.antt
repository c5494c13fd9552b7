pub mod CommandLine
pub mod Given
pub mod PlainWords
pub mod Words
