pub mod Widenings
pub mod Books
pub mod Units
pub mod Measured
pub mod Common
pub mod Laws
