-- Meaning: names as a terminal can be given them
pub mod Names
