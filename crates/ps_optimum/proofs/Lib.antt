pub mod Logged
pub mod Printing
pub mod Handed
pub mod Settings
