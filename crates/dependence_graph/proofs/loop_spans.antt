pub mod SpanLaws
pub mod ChainLaws
pub mod TurnLaws
pub mod Worked
