pub mod Known
pub mod Filling
pub mod Adding
