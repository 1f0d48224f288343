pub mod MemberFacts
pub mod WorldFacts
pub mod MissingFacts
pub mod PlayFacts
