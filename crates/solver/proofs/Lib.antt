mod Smaller
mod Tables
mod Turns
