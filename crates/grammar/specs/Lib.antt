pub mod Grammar
pub mod Check
