pub mod FewerKinds
pub mod FewerStatements
