pub mod Settling
pub mod Performing
