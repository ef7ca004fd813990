pub mod Lists
pub mod SizeLaws
pub mod AroundLaws
pub mod LimitLaws
pub mod WalkLaws
