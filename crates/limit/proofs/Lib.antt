pub mod UnderLimit
