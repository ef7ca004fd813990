pub mod ListedNests
