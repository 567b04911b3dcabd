pub mod Cutoffs
pub mod Inner
