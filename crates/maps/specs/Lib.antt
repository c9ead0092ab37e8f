pub mod Chains
pub mod Hashing
pub mod Keys
pub mod Room
pub mod Pairs
pub mod Means
