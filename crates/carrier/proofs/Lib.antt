pub mod Buffers
pub mod Kept
pub mod Lines
pub mod Plain
pub mod Restored
