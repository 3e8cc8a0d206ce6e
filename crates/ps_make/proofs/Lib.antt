pub mod Laid
mod Short
pub mod Few
pub mod Lawful
pub mod Read
