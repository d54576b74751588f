pub mod StepLaws
pub mod SearchLaws
