pub mod Rows
pub mod Turns
pub mod OrdinaryRows
pub mod Last
pub mod Ends
