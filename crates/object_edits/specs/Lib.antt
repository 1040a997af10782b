pub mod CreatedViews
pub mod ViewSteps
