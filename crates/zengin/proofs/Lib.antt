pub mod Grouping
pub mod Judging
pub mod Naming
pub mod Numbered
pub mod Outcomes
pub mod Passing
pub mod Stated
pub mod Walks
