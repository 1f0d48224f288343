pub mod JointViews
pub mod JointBooks
pub mod CoreViews
pub mod WordsFiles
