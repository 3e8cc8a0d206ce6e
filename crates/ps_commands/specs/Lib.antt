-- Meaning
pub mod Statuses
pub mod Commands
pub mod RunLimits
pub mod Summaries
pub mod Due
pub mod Conflicts
pub mod Accepting
pub mod Runs
pub mod Answering
pub mod AcceptedRuns
pub mod Exits
-- Bridge: what the words behind a command's name set, and what a reply stands for
pub mod Settings
pub mod Replies
