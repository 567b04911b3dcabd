pub mod Picked
pub mod Tests
pub mod Section
