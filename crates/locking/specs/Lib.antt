pub mod Locking
pub mod Inner
