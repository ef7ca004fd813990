pub mod NormalLoop
