pub mod Done
pub mod Laid
pub mod TermLines
