pub mod Read
pub mod Whole
pub mod Laid
pub mod Trip
pub mod Written
