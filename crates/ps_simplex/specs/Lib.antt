-- Meaning
pub mod Table
pub mod Rule
pub mod Pivots
pub mod Cycle
pub mod Count
-- Laws, as the functions of basis_laws.rt, rule_laws.rt and cycle_laws.rt promise them
pub mod BasisLaws
pub mod RuleLaws
pub mod CycleLaws
