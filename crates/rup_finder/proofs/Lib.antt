pub mod Propagation
pub mod ReadyLaws
pub mod RecentLaws
pub mod FrontLaws
