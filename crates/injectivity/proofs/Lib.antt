-- The laws behind the call, in the order of the verdict's parts.
pub mod InputsLaws
pub mod PlanLaws
pub mod ActiveLaws
pub mod LeftLaws
pub mod SearchableLaws
pub mod CoverLaws
pub mod JudgeLaws
pub mod ReadyLaws
pub mod OrderedLaws
pub mod WordsLaws
pub mod MeaningProved
