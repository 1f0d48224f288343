pub mod SaleTexts
pub mod SaleAnswers
pub mod Sales
