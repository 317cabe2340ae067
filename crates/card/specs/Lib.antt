pub mod View
pub mod Judged
pub mod Promise
