pub mod OutsideLaws
pub mod LoopLaws
pub mod MadeLaws
pub mod NormalForms
