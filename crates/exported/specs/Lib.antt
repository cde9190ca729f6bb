-- How an answer is told in numbers.
pub mod Told
