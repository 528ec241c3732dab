pub mod Ceilings
pub mod Figures
pub mod Rows
pub mod Tables
