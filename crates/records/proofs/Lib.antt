pub mod Columns
pub mod Kept
pub mod Places
pub mod Rows
pub mod Tiles
pub mod Walks
