-- Meaning: what words spell and set, what is asked for, and why nothing is
pub mod Numbers
pub mod Kinds
pub mod Options
pub mod Choices
pub mod Requests
pub mod Refusals
pub mod Statuses
