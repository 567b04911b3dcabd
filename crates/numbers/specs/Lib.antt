pub mod Sizes
pub mod Sign
pub mod Round
pub mod Inner
