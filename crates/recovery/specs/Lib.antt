pub mod Recovers
pub mod ByKind
pub mod Inner
