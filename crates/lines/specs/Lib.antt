-- The text that the lister prints, and how a text is put into a buffer.
pub mod Lines
pub mod Written
