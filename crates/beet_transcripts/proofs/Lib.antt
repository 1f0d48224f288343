pub mod DealtPoints
pub mod RunsOnFacts
pub mod BookRuns
pub mod ElementRuns
pub mod FittingRuns
pub mod FittingViews
