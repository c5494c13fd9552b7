pub mod Saturation
pub mod Ready
pub mod Recent
pub mod Front
