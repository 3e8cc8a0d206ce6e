-- Meaning
pub mod Pricings
-- Bridge: what a search for the greatest value gives
pub mod Sought
