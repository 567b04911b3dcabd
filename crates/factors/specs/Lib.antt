pub mod Naming
pub mod Factors
pub mod Inner
