pub mod Readings
pub mod Maps
pub mod Querying
pub mod Requesting
pub mod Refused
pub mod Depths
pub mod SeveralMaps
pub mod Masking
