-- Meaning: runs and their certificates
pub mod Rows
pub mod Certificates
pub mod Searches
pub mod Programs
pub mod Runs
pub mod Subjects
pub mod Reached
pub mod Kept
-- Meaning: the phases of a run over tables
pub mod Columns
pub mod Licences
pub mod Verdicts
pub mod Tables
-- Laws, as the functions of run_laws.rt and phase_laws.rt promise them
pub mod RunLaws
pub mod PhaseLaws
-- Meaning, and the law, of a limit of pivots
pub mod Enough
