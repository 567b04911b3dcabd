pub mod Pools
pub mod Balance
pub mod Inner
