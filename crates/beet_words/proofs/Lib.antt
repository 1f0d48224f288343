mod HexDigits
mod Appending
pub mod TapeRows
pub mod TapeAgain
pub mod Times
pub mod FieldsAgain
mod BundleParts
pub mod BundleAgain
mod BundleLengths
mod Drawing
pub mod DrawnFrom
pub mod WordLists
pub mod Putting
mod SeedNumbers
