pub mod Kept
pub mod Owned
pub mod Loops
pub mod Found
pub mod Resting
