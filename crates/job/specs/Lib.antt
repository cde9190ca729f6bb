-- How the code's records and arrays stand for the meaning, and the code's own steps.
pub mod Puts
pub mod Bound
pub mod Progress
pub mod Table
pub mod Fault
pub mod Grow
pub mod Answer
