pub mod Cards
pub mod CardMarks
pub mod Figures
pub mod Marks
pub mod Readings
pub mod Reductions
pub mod Panels
