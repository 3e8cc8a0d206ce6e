pub mod ClashLists
pub mod Said
pub mod Sides
pub mod Values
pub mod ExactLines
pub mod Listed
pub mod Beneath
pub mod Steps
