pub mod Emission
pub mod Loops
