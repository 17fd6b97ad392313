pub mod Turns
pub mod Listings
