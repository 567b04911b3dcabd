pub mod Answered
pub mod Joined
pub mod Units
pub mod OneConstraint
