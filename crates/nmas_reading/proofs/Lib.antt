pub mod Fields
pub mod OneRow
pub mod Once
pub mod Texts
pub mod Numbers
