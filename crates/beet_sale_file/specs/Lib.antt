pub mod SaleRows
pub mod Sales
pub mod SaleFiles
