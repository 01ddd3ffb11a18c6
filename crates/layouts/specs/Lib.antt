-- The words of the crates below in which the contracts of these calls speak of the code's structs.
pub use Rattle.copying.specs.Copy
pub use Rattle.injectivity.specs.Judgement
pub use Rattle.injectivity.specs.Meaning
pub use Rattle.means.specs.Means
pub use Rattle.record.specs.Calls
pub use Rattle.record.specs.Chain
pub use Rattle.record.specs.Reading
pub use Rattle.record.specs.SameReadings
pub use Rattle.record.specs.Writer
pub use Rattle.view.specs.Answers
pub use Rattle.view.specs.Count
pub use Rattle.view.specs.Equal
pub use Rattle.view.specs.Indexed
pub use Rattle.view.specs.Model
pub use Rattle.view.specs.Parts
pub use Rattle.view.specs.Printed
pub use Rattle.view.specs.Reach
