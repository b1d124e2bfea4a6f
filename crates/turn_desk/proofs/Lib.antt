pub mod Looking
pub mod Standings
