-- Meaning
pub mod Chain
-- Laws, as the functions of laws.rt promise them
pub mod Laws
-- Bridge: what is still to be written of a chain
pub mod Lines
