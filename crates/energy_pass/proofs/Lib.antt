pub mod Said
pub mod Rows
pub mod Turns
pub mod End
