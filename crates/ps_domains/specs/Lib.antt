-- Which tokens are expected
pub mod Names
pub mod DomainWords
pub mod DomainTokens
-- Texts: what tokens derive, what that states and asks, and what stands at the front of bytes
pub mod DomainGrammar
pub mod DomainMeanings
pub mod DomainFronts
-- Bridge: what is kept of tokens and of a state
pub mod Lexed
pub mod KeptStates
