pub mod Clusters
pub mod Draws
