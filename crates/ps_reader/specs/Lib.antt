-- Meaning
pub mod Lines
pub mod Errors
-- Bridge: words that are read, with numbers of any size
pub mod Read
pub mod Cursor
pub mod Numerals
pub mod Kinds
pub mod Ratios
pub mod Rows
pub mod Truths
pub mod Places
pub mod Texts
-- Bridge: lines that are taken, one after another
pub mod Taken
pub mod Reports
