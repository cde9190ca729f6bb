-- Laws that the functions' proofs cite.
pub mod Puts
pub mod Texts
pub mod Cases
