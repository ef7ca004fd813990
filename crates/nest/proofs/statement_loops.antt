pub mod AmongLaws
pub mod StandingLaws
