pub mod NoneRefuses
