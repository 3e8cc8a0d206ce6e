-- Meaning
pub mod Answers
pub mod Judged
pub mod Limits
-- Laws, as the functions of laws.rt promise them
pub mod Laws
-- Bridge: what is found of some claims in their order, what the tests of a model and of a dual find, and a distribution by
-- the truth of each node
pub mod ClaimLists
pub mod Tests
pub mod Aims
pub mod DualTests
pub mod Valuations
