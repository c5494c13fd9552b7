pub mod TrailValues
pub mod ClauseLaws
pub mod EventLaws
pub mod Merging
pub mod SumForms
