-- Meaning
pub mod Statuses
pub mod Words
pub mod Lines
-- Bridge: what a message stands for
pub mod Messages
