-- Document 01, section by section: read it beside these files, in this order.
pub mod Basics
pub mod Job
pub mod Reading
pub mod Counter
pub mod Relevant
pub mod Rows
pub mod List
pub mod Plain
pub mod Group
pub mod Walk
pub mod Ground
pub mod Cases
