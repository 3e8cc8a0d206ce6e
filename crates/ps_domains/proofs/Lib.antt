pub mod Scopes
pub mod Digits
pub mod Passed
pub mod Telling
pub mod Judging
pub mod Going
