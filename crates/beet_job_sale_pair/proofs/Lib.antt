pub mod DifferenceFacts
pub mod Judged
pub mod SaleAnswers
