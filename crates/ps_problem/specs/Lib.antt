pub use Rattle.ps_meaning.specs.Formula
pub use Rattle.ps_meaning.specs.Distribution
pub use Rattle.ps_meaning.specs.Bounds
pub use Rattle.ps_meaning.specs.Statements
pub use Rattle.ps_formula.specs.Nodes
-- Meaning
pub mod Scales
pub mod Problems
pub mod Shown
pub mod Rows
pub mod Numbering
pub mod Counts
pub mod Soundness
pub mod Drafts
pub mod Builds
pub mod Written
pub mod Rereading
-- Laws, as the functions of laws.rt promise them
pub mod Laws
-- Bridge: what joins drafts and the making of a problem to that meaning
pub mod Codes
pub mod DraftLists
pub mod Numbered
pub mod Making
