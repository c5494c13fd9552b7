pub mod ProofTexts
pub mod LogTexts
pub mod LearnedClauses
pub mod RightSources
pub mod Laws
