pub mod Lists
pub mod Sets
pub mod LabelLaws
pub mod MarkLaws
pub mod LoopLaws
pub mod SizeLaws
pub mod SymbolLaws
