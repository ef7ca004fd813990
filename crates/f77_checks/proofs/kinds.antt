pub mod HiddenLaws
pub mod ItemLaws
pub mod KindLaws
pub mod NameLaws
pub mod StatementLaws
