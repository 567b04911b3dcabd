pub mod Sums
pub mod Once
pub mod Everyone
pub mod InOrder
pub mod Groups
pub mod Rows
