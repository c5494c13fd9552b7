pub mod LiteralChoice
pub mod ReasonClause
pub mod Laws
pub mod Reasons
pub mod Sums
