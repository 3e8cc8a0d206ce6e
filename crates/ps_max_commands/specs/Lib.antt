-- Meaning
pub mod Splits
pub mod Ends
pub mod Lines
pub mod Due
pub mod Replies
-- Laws, as the functions of laws.rt promise them
pub mod Laws
