-- Meaning: how much is read, and what is shown
pub mod Late
pub mod Statuses
pub mod Reads
pub mod Clashes
pub mod Conditions
pub mod Reached
pub mod Known
pub mod Details
pub mod Unused
pub mod Fronts
pub mod Shown
-- The law of decimals
pub mod Decimals
-- Bridge: what a reply stands for, and what is known between turns
pub mod Replies
pub mod Rounds
-- Bridge: the weights of worlds
pub mod Weights
