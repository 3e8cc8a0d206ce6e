-- Meaning
pub mod Tokens
pub mod Pieces
pub mod Grammar
pub mod Meanings
pub mod Fronts
pub mod Canonical
pub mod ExpectedTokens
pub mod Refusals
pub mod Versions
pub mod OneAnswer
pub mod Positions
-- Bridge: the derivation of the tokens so far, which a parser's state stands for
pub mod BegunFormulas
pub mod PartialParses
