-- Meaning
pub mod Searches
pub mod Printed
