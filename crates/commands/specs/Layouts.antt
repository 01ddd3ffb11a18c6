-- The two layouts that the program keeps. Assumes nothing.
use Rattle.specification.specs.Layout.{LayoutModel}
use Rattle.view.specs.Model.{model_of}
use Rattle.commands.specs.declared.layouts.Layouts as code

-- the layout that commands ask and change, and the one that `hold` has kept for `copy`
pub record Layouts : Type 0 where
  pub current : LayoutModel
  pub held : LayoutModel

-- both by their meaning
abbrev pub layouts_of : code.Layouts → Layouts
layouts_of ls = record { current = model_of ls.current; held = model_of ls.held }
