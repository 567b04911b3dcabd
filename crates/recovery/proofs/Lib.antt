pub mod Energy
pub mod Sharing
pub mod Payments
pub mod UnitTurns
pub mod Recovered
