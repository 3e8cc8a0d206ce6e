-- Meaning
pub mod FirstOrder
pub mod Texts
-- Bridge: formulas as numbered parts
pub mod Parts
