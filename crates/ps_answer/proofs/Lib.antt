pub mod Cuts
pub mod Derived
pub mod Told
pub mod Dues
pub mod OneItem
pub mod Single
pub mod Written
pub mod WrittenItems
