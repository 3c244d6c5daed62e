pub mod Basics
pub mod Tables
pub mod Levels
