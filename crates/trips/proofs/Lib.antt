pub mod Due
pub mod Lines
pub mod Lists
pub mod Call
pub mod Trip
