pub mod Lines
pub mod RowLaws
pub mod Declarations
pub mod Links
pub mod Marks
pub mod Forming
pub mod Formed
pub mod LineKinds
pub mod TypeLines
pub mod Copies
pub mod Ranges
pub mod Fitting
mod Walks
pub mod Binders
pub mod Bound
pub mod Binding
pub mod OneLine
