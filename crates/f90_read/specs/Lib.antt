pub mod Checks
pub mod f90_suits
pub mod one_answer
pub mod surroundings
