pub mod Fronts
pub mod PlanSteps
mod ReadLemmas
