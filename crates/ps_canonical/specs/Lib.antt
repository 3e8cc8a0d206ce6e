-- Laws, as the functions of laws.rt promise them
pub mod Laws
-- Bridge: what is still to be written of a formula, and the lines of a text
pub mod Tasks
pub mod Terms
pub mod Lines
