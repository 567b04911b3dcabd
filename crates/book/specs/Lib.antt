pub mod Header
pub mod Book
pub mod Laid
pub mod Table
pub mod Inner
