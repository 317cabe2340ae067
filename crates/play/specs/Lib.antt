pub mod Played
pub mod Unplayed
