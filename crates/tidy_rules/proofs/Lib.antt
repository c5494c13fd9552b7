pub mod PartLaws
pub mod RelationLaws
pub mod InsideLaws
pub mod OneLaws
