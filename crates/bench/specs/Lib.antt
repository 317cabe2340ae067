pub mod Words
pub mod Calibrations
pub mod Compared
pub mod Steps
