pub mod Numbers
pub mod Sized
pub mod Lines
pub mod Guide
pub mod Checks
