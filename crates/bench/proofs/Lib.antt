pub mod Erases
