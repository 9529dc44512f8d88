pub mod Plan
pub mod Rows
pub mod Form
pub mod Used
pub mod Fit
pub mod Binders
pub mod Entries
