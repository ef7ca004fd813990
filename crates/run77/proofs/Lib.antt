pub mod ValueLaws
pub mod ItemLaws
pub mod JumpLaws
pub mod ProgramLaws
pub mod AnswerLaws
