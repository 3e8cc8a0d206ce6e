-- Meaning
pub mod Answers
pub mod Optima
-- Laws, as the functions of laws.rt promise them
pub mod Laws
