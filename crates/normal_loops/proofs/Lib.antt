pub mod LoopLaws
pub mod BodyLaws
pub mod BlockLaws
pub mod NestLaws
pub mod CountLaws
