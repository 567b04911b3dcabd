pub mod Printing
pub mod Inner
