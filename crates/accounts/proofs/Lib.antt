pub mod Joined
pub mod Lists
pub mod Turns
pub mod Own
pub mod Parts
pub mod Handed
