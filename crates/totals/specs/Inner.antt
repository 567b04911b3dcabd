-- What contracts of inner functions and of functions between the crates speak of, and no promise to a caller outside.
pub mod Facts
pub mod Turns
pub mod Totals
pub mod Energies
