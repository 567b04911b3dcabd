pub mod Fields
pub mod Ends
pub mod Handed
