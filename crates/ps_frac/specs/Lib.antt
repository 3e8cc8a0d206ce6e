-- Meaning
pub mod Refusals
pub mod CommonMultiples
pub mod Decimals
-- Laws, as the functions of decimal_laws.rt promise them
pub mod DecimalLaws
-- Bridge: parts of results, where they fit, and what shows that a power is positive
pub mod Fitting
pub mod Powers
