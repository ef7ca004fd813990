pub mod ConvertedNests
pub mod SymbolsAnew
pub mod SubstitutedNests
pub mod RenamedNests
pub mod ExpandedNests
pub mod ArrangedNests
pub mod SplitNests
