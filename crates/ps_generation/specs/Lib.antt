-- Meaning: what a table shows
pub mod Multiples
pub mod Models
pub mod Duals
-- Meaning: phases and runs
pub mod Phases
pub mod Runs
-- Bridge: what a phase does between two rests of its table, and the multipliers that its end is told with
pub mod Rounds
pub mod Counts
pub mod Spreading
-- Bridge: what contracts see of the program's own types, and what the code has gone through so far
pub mod States
pub mod Rows
