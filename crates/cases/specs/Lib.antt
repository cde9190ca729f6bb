-- What a run of the corpus prints besides the lister's lines.
pub mod Cells
