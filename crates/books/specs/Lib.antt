pub mod Books
pub mod Booking
