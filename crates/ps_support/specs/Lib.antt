-- Meaning: the sentences on which a bound rests
pub mod Places
pub mod Supports
-- Meaning: how a bound moves with a number, and in which worlds it is reached
pub mod Rates
pub mod Examples
