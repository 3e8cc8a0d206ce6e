-- Meaning: formulas, worlds and what nodes stand for
pub use Rattle.ps_meaning.specs.Formula
pub use Rattle.ps_meaning.specs.Distribution
pub mod Nodes
