pub mod OneJudgement
pub mod TextSoundness
pub mod LearnedClauses
pub mod RightSources
mod TextCase
