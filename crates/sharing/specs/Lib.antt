pub mod Once
pub mod Accounts
pub mod Inner
