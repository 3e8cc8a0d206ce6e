-- Meaning
pub mod Items
pub mod Texts
pub mod Parts
pub mod Faults
-- Laws, as the functions of laws.rt promise them
pub mod Laws
-- Bridge: lines that are read
pub mod Read
pub mod Lines
-- Bridge: lines that are taken, one after another
pub mod Taken
pub mod Answered
