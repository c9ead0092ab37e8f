pub mod Flagged
pub mod Substituted
