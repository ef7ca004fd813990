pub mod Forms
pub mod LabelPlaces
pub mod Labels
pub mod LoopLabels
pub mod Openings
pub mod jumps
