pub mod SessionViews
