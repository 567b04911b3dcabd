pub mod Reads
pub mod Sided
pub mod Inner
