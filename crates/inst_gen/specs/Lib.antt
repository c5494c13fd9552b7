pub mod Words
pub mod Planting
pub mod Triples
pub mod Laws
