pub mod Sums
pub mod Listed
pub mod Terms
pub mod Reducing
pub mod Eliminating
pub mod Made
pub mod Occurring
pub mod Echelon
