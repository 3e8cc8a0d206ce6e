-- Meaning: answers in words and numbers
pub mod Numbers
pub mod Digits
pub mod Between
pub mod Sentences
pub mod Reached
pub mod Supports
pub mod Examples
pub mod Details
pub mod Spoken
pub mod Quiet
pub mod Exact
pub mod Clashes
-- Meaning: answers as an object of JSON
pub mod Strings
pub mod Listings
pub mod JsonDetails
pub mod Bounds
pub mod Queries
pub mod JsonClashes
pub mod Counts
pub mod Warned
pub mod Unused
pub mod Objects
