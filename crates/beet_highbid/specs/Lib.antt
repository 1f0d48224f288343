pub mod SaleViews
pub mod SalePairs
