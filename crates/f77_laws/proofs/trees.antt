pub mod Lists
pub mod Frames
pub mod Moves
pub mod Shapes
pub mod Sound
pub mod Begun
pub mod InnermostLoops
pub mod LoopEnds
pub mod Pieces
pub mod Formed
pub mod Trees
pub mod Pairs
pub mod PairedBlocks
pub mod Splits
pub mod Wholes
pub mod WellNested
pub mod Segments
pub mod Labelling
pub mod Unlabelling
pub mod Written
mod TreeDecks
mod EndDoDecks
