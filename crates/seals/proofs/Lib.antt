pub mod SealByte
pub mod Standing
