pub mod Trips
pub mod Acts
pub mod LoopsOverPieces
pub mod Bounds
pub mod Points
pub mod CutPairs
pub mod LoopAnswers
pub mod CutLoops
