pub mod DenseLaws
pub mod StridesLaws
