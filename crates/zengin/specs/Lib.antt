pub mod Files
pub mod Groups
pub mod Judged
pub mod Lawful
pub mod Offences
pub mod Shown
