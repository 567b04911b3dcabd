pub mod Bits
pub mod Signs
pub mod Sizes
pub mod Ring
pub mod Rounding
pub mod Products
