pub mod Elements
pub mod Newest
pub mod Walk
pub mod Links
pub mod Indexed
pub mod Tables
pub mod Laws
pub mod Keys
