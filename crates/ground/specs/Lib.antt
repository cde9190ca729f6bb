-- How the answer and the list's shape stand for the meaning's.
pub mod Answer
pub mod Shape
