pub mod Samples
pub mod SampleLaw
