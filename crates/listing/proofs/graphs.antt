pub mod GraphLines
pub mod LoopLines
pub mod PieceLines
pub mod StatementLines
