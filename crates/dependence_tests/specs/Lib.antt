pub mod delta_test
pub mod gcd_banerjee
pub mod loop_lines
pub mod siv_tests
