pub mod Lifters
