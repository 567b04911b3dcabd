pub mod Whole
pub mod InTurn
pub mod Both
