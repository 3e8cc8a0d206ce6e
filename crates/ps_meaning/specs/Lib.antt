-- Meaning: formulas, worlds, distributions and bounds
pub mod Formula
pub mod Distribution
pub mod Bounds
pub mod Rows
pub mod Statements
pub mod Names
-- Meaning: rational numbers
pub mod Gcd
pub mod Rational
pub mod Order
pub mod Wide
pub mod Sums
pub mod Scaled
-- Laws of rational numbers, as the functions of laws.rt promise them
pub mod Laws
-- Bridge: what shows that a quotient is in lowest terms
pub mod Coprime
pub mod Parts
