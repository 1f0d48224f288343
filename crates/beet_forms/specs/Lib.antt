pub mod Rows
pub mod RowReaders
pub mod Numbers
pub mod Names
pub mod Faults
pub mod FaultLines
