-- Meaning
pub mod Explanations
pub mod Rests
pub mod Texts
-- Bridge: what each step finds of it
pub mod Used
pub mod Steps
