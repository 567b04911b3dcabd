pub mod Calls
pub mod Rewriting
