pub mod Propagating
pub mod Standing
pub mod Settling
pub mod Judged
pub mod Marking
