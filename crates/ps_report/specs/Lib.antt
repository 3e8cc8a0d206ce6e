-- Bridge: what writes the lines of a report, and its parts
pub mod Written
pub mod Parts
pub mod Reports
