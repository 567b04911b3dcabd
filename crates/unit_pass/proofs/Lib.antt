pub mod Said
pub mod Turns
pub mod Walk
pub mod Ahead
