mod Digits
mod Exactly
