pub mod UnitRuns
pub mod OneConstraint
pub mod Once
