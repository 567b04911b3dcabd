pub mod Stages
pub mod Made
pub mod Numbering
pub mod Ends
