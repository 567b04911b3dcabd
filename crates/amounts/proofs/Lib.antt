pub mod Sizes
pub mod Signed
