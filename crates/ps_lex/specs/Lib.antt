-- Bridge: what a lexer keeps of bytes and of tokens, and what it tells of pieces
pub mod Counted
pub mod Places
pub mod Lexing
pub mod Seen
pub mod Passing
pub mod Told
-- Bridge: a stack as a list, and what kept tokens and states stand for
pub mod Stacks
pub mod KeptTokens
