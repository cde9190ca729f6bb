-- Laws, stated over the code's values, which the proofs of the functions cite.
pub mod Puts
pub mod TermLaws
pub mod Bounds
pub mod Judging
pub mod Sums
pub mod Growing
pub mod Sounds
pub mod Ends
pub mod Stores
