pub mod Real
pub mod Streams
