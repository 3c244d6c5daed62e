pub mod Tokens
pub mod Lexing
pub mod Answer
pub mod Lexemes
