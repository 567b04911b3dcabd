pub mod Sums
pub mod Divisors
pub mod Inner
