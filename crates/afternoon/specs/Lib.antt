pub mod Desk
pub mod Performed
pub mod Printed
pub mod Staff
pub mod Told
