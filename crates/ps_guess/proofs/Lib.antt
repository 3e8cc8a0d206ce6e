mod Against
mod KeptModels
mod Logged
pub mod KnownLaws
pub mod Right
pub mod Settled
pub mod Untold
