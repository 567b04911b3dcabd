pub mod Modes
pub mod Bases
pub mod Masks
pub mod Walk
