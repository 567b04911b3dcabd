pub mod Shares
pub mod Pools
pub mod Inner
