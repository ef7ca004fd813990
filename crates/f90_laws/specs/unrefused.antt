pub mod Unrefused
