pub mod ByForm
pub mod Closers
pub mod LabelLaws
pub mod LeftOpen
pub mod LoopLabelLaws
pub mod OpenIfs
pub mod OpenLoops
pub mod Sooner
