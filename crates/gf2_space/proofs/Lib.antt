pub mod Arising
pub mod SpaceLaws
pub mod RowSums
pub mod Echelons
pub mod Filling
pub mod Places
pub mod Supporting
pub mod Printing
