-- What is read and what is walked are joined here.
pub mod Joins
