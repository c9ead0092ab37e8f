pub mod Forms
pub mod Letters
pub mod Troubles
pub mod Widths
pub mod Words
