-- The laws of the kinds.
pub mod Blanks
pub mod Items
pub mod Comparisons
