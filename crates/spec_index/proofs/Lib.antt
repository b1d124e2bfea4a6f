pub mod Ties
pub mod Firsts
pub mod Folding
pub mod Reordering
