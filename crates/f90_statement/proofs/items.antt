pub mod CommaLaws
pub mod FollowLaws
pub mod ListLaws
pub mod DepthLaws
pub mod StepLaws
pub mod ReadLaws
pub mod MadeLaws
pub mod OfParts
