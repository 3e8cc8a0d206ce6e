-- Meaning
pub mod Shown
pub mod Found
pub mod Hints
pub mod Names
pub mod Places
pub mod Refusals
pub mod Warnings
