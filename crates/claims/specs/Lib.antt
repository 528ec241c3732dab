pub mod Claims
pub mod Codes
pub mod Numbers
pub mod Printed
pub mod Widths
