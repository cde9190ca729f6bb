-- How the code's records stand for the meaning.
pub mod Limits
pub mod Rule
