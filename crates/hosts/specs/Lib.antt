pub mod Firsts
pub mod Ledgers
pub mod Meaning
pub mod Sheets
pub mod LedgersLemmas
pub mod FirstsLemmas
pub mod Layers
pub mod SheetsLemmas
