-- What contracts of inner functions speak of, and no promise to a caller outside.
pub mod Walks
