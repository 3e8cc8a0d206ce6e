pub mod Made
pub mod Numbered
pub mod Sequence
pub mod Spelled
