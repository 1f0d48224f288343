pub mod VerdictFacts
pub mod PointFacts
pub mod PartFacts
pub mod BidFacts
pub mod RoundFacts
pub mod OneRunFacts
pub mod FinishFacts
pub mod RunAgainFacts
mod StepFacts
pub mod AuditFacts
pub mod BookRunFacts
