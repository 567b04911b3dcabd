pub mod Statement
pub mod Lent
