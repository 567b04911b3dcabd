-- What contracts between our own functions speak of, and no promise to a caller outside.
pub mod Shapes
pub mod Units
pub mod Rests
