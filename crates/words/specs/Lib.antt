pub mod Words
pub mod Inner
