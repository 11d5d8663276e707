pub mod Graphs
pub mod Decisions
