pub mod Unpacking
