-- Meaning: the end of a report, and what is found of all the bytes of a source
pub mod Ends
pub mod Checks
-- Laws, as the functions of laws.rt promise them
pub mod Laws
pub mod LaterSteps
-- Bridge: how far a judge has come behind each line
pub mod Subjects
pub mod Found
pub mod Progress
-- Bridge: the parts that are due as they are kept, and the lines that were taken
pub mod Runs
pub mod DueLines
pub mod Counts
pub mod Reading
pub mod States
-- Bridge: what is known of the bytes that came
pub mod Judging
pub mod Reports
pub mod Intakes
