pub mod Lines
pub mod Limit
pub mod Inner
