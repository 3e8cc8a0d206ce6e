-- Meaning
pub mod Limits
pub mod Spacing
pub mod Sums
pub mod Values
