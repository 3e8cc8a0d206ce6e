-- Meaning
pub mod Trials
pub mod Solutions
pub mod Known
pub mod Turns
-- Bridge: the steps of a refutation are few
pub mod Steps
