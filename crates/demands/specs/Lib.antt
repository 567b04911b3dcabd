pub mod Demand1
pub mod Demand2
pub mod Demand3
pub mod Length
pub mod Unread
pub mod File
pub mod Explained
pub mod Limit
