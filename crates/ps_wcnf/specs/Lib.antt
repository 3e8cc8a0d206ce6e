-- Meaning
pub mod Costs
pub mod Limits
pub mod Valued
pub mod Splitting
pub mod Spelling
pub mod Readings
pub mod Handed
-- Laws, as the functions of laws.rt promise them
pub mod Laws
-- Bridge: numbers that are cut off, and what is kept while a text is read
pub mod Counted
pub mod Built
