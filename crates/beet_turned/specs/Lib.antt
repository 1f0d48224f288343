pub mod Turn
pub mod MappedMasks
