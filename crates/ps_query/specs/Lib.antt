-- Meaning
pub mod Settled
pub mod Solutions
-- Laws, as the functions of laws.rt promise them
pub mod Laws
-- Bridge: what each step finds of it
pub mod Parts
