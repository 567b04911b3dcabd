pub mod Rows
pub mod Account
pub mod Inner
