pub mod Passed
pub mod Read
pub mod Room
pub mod Steps
pub mod Promise
pub mod Second
