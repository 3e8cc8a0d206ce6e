-- Meaning
pub mod Words
pub mod Items
pub mod Answers
pub mod ExpectedParts
pub mod Faults
-- Laws, as the functions of laws.rt promise them
pub mod Laws
