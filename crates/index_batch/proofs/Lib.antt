pub mod Batches
mod Merging
