pub mod Refusals
pub mod Instructions
pub mod Coverage
pub mod Frames
pub mod Views
