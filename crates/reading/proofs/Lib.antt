pub mod Ends
mod Pieces
mod Rewritten
