pub mod BegunLaws
pub mod ItemLaws
pub mod LiteralLaws
pub mod RangeLaws
pub mod ResolvedLaws
pub mod RestLaws
pub mod SimpleLaws
pub mod TargetLaws
