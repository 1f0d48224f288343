pub mod SaleEnds
