pub mod Listings
pub mod Piles
pub mod Objections
pub mod Layered
