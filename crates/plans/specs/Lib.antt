pub mod Plan
