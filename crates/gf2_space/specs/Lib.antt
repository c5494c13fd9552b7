pub mod Solutions
pub mod Spaces
pub mod Kept
pub mod Supports
pub mod AffineText
