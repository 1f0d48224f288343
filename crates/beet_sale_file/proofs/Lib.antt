pub mod SaleBids
