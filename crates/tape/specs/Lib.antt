pub mod Hex
pub mod Lines
pub mod Views
pub mod Answers
pub mod Filled
