pub mod Carrier
