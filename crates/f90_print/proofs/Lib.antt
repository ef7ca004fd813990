pub mod DeclarationTexts
pub mod ExpressionTexts
pub mod ItemTexts
pub mod LineTexts
pub mod Lists
pub mod ProgramTexts
pub mod StatementTexts
