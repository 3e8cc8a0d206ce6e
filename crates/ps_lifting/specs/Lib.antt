-- Meaning
pub mod Systems
