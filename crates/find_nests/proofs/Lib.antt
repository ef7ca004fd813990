pub mod SearchLaws
pub mod Outermost
pub mod FoundLaws
pub mod ReasonWalks
pub mod BoundLimits
pub mod BoundNumbers
pub mod NestParts
