pub mod Assigning
pub mod Ranking
pub mod Arranging
