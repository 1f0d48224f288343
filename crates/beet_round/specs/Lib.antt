pub mod Sides
pub mod Boxes
