pub mod UnitRows
pub mod Parts
pub mod EachLine
pub mod Limit
pub mod Picked
