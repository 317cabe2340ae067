pub mod Replayed
pub mod Reading
pub mod Shown
