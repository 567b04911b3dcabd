pub mod Found
pub mod Fractions
pub mod Sides
pub mod Leaving
pub mod Pools
pub mod Exact
pub mod Explained
pub mod Closes
