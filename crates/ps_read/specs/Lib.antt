-- Meaning: readings of texts, and the problem at the front of bytes
pub mod Kinds
pub mod Readings
pub mod Reads
pub mod Fronts
-- Bridge: the machine over tokens, which derivation its state stands for, what the parser keeps, and what taking a token does
pub mod Pending
pub mod Machine
pub mod Derivations
pub mod Ready
pub mod Kept
pub mod Taking
-- Bridge: what bytes tell, token by token
pub mod Answers
-- Bridge: what a reader has taken, and what is known of the bytes that were pushed
pub mod Takings
pub mod Stages
