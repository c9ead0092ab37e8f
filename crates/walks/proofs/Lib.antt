pub mod Ranks
pub mod Flags
pub mod Firsts
pub mod Entries
pub mod Searching
pub mod Filling
pub mod Substituting
