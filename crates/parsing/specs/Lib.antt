pub mod Parsing
pub mod Inner
