pub mod Borrowed
pub mod ProofTaking
pub mod Told
pub mod ToldSteps
