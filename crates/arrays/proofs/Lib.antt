pub mod Zips
pub mod Pieces
pub mod Places
pub mod Powers
pub mod Shapes
pub mod Found
pub mod Written
pub mod Calls
