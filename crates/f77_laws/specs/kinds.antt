pub mod Apart
pub mod OneRule
pub mod StatementRule
