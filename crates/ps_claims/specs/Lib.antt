-- Meaning: what the sentences entail
pub mod Queries
pub mod Answers
-- Meaning: claims and their certificates
pub mod Duals
pub mod Goals
pub mod Limits
pub mod Validity
pub mod Faults
pub mod Claims
pub mod Certificates
-- Meaning: what can be printed
pub mod Printed
-- Laws, as the functions of entailment_laws.rt and claim_laws.rt promise them
pub mod EntailmentLaws
pub mod ClaimLaws
-- Bridge: what the sum of rows asks of each bound
pub mod Rows
