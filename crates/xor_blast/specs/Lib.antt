pub mod Pieces
pub mod Blasted
pub mod Extending
pub mod Rising
pub mod Bits
pub mod Adding
