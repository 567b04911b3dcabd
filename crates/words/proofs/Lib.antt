pub mod Letters
pub mod Rooms
