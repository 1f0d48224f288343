pub mod SaleWants
pub mod SaleLoading
