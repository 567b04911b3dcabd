pub mod Tree
pub mod Told
pub mod Counting
