-- The laws of copying, lowest first.
pub mod CopiesLaws
mod CopyHanded
mod CopyAnswers
mod ComputedCopies
mod FrontLaws
mod RowsLaws
mod SweepLaws
mod SheetsLaws
mod SameExtents
mod SuitedLaws
mod PositionLaws
mod SharedLaws
mod CallLaws
