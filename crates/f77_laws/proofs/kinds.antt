mod Dimensions
mod OneRule
mod Texts
mod Statements
mod StatementLaws
mod Apart
