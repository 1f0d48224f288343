pub mod PointRuns
pub mod SealedViews
pub mod SameTexts
pub mod FittingPoints
pub mod PointAudits
