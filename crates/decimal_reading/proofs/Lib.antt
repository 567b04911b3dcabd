pub mod Answered
pub mod Taking
pub mod Sides
