pub mod Numbers
pub mod Hosts
