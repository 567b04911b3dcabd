pub mod Settled
pub mod Link
pub mod Owned
pub mod Ends
pub mod OneLine
