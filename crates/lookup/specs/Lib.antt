pub mod ByNumber
pub mod Inner
