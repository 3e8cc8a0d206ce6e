pub mod CrossOrder
pub mod Reduced
pub mod Halving
pub mod Sizes
pub mod Rounding
pub mod Digits
pub mod Ranges
