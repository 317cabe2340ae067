pub mod Stores
pub mod Swaps
pub mod Agree
pub mod Taking
pub mod Stepping
pub mod Runs
pub mod Answered
