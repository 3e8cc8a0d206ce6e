pub mod Terms
pub mod Found
pub mod Wishes
