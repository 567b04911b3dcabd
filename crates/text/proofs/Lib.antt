pub mod Ends
pub mod OwnLines
