pub mod PlaceFacts
pub mod PlanParts
