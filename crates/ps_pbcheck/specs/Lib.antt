-- Meaning
pub mod Checked
-- Bridge: answers on the way, and how what is known is kept
pub mod Judged
pub mod Followed
pub mod Parts
