-- Meaning
pub mod Grounding
pub mod Structures
pub mod Images
-- Bridge: formulas as numbered parts, and their marks
pub mod GroundParts
pub mod Marks
pub mod Drafting
pub mod Spellings
-- Laws, as the functions of laws.rt promise them
pub mod Laws
