pub mod SealedCurves
pub mod PointAudits
