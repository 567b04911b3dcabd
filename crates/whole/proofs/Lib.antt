pub mod Given
pub mod Written
pub mod Lengths
