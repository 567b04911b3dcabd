pub mod Spelling
pub mod Writing
pub mod Standing
pub mod Reading
pub mod Once
pub mod Signs
pub mod Trip
