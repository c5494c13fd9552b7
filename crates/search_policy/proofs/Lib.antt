pub mod PickLaws
pub mod HeapLaws
pub mod ShuffleLaws
pub mod StandLaws
pub mod RemovalLaws
pub mod LubyLaws
pub mod BumpLaws
pub mod AssumingLaws
