pub mod Denials
pub mod Printed
