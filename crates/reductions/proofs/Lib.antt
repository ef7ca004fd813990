mod SameLaws
mod ReadingLaws
mod ReadingStatements
mod ScalarLaws
mod NameLaws
mod ReducedLaws
mod FormLaws
mod LoopLaws
