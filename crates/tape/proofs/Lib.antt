pub mod Decoding
mod Filling
mod Writing
