pub mod Missed
pub mod Accepted
pub mod Judged
pub mod Unfaulted
