pub mod LineTokens
pub mod Answers
pub mod Reading
pub mod Mentions
pub mod Waiting
pub mod Laws
pub mod Settling
