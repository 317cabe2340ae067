pub mod Words
pub mod Store
pub mod Layout
pub mod Kinds
