pub mod Numbers
pub mod Signed
pub mod Guide
pub mod Checks
