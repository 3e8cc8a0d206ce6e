-- Meaning
pub mod Clauses
pub mod Extensions
pub mod Forms
pub mod Decided
pub mod Spent
pub mod Limits
-- Laws, as the functions of laws.rt promise them
pub mod Laws
-- Bridge: what a clause form keeps
pub mod Kept
