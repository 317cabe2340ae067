pub mod Sequences
pub mod Judged
pub mod Deeds
