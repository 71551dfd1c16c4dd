pub mod Averages
pub mod Samples
pub mod Tables
pub mod StandsFor
