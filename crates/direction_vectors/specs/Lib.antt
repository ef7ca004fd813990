pub mod Answers
pub mod Boxes
pub mod Candidates
pub mod Merged
pub mod Parts
pub mod Unions
pub mod Vectors
pub mod vector_tests
