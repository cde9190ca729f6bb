-- How the code's field stands for the meaning.
pub mod Field
