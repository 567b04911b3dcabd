-- What contracts of inner functions and of functions between the crates speak of, and no promise to a caller outside.
pub mod Order
pub mod Tests
pub mod Walk
