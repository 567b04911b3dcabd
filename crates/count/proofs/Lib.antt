pub mod Counting
pub mod LineCount
