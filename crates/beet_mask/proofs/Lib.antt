pub mod MaskMeaning
pub mod TreeRun
pub mod ProductRun
pub mod MaskRun
pub mod MaskTable
pub mod MaskStands
