-- The two axes that are set apart, and the others.
use Rattle.std.specs.Prelude.{◌≡◌, List, ◌∷◌, ◌^◌, ◌<◌, ◌≤◌, length, All}
use Rattle.specification.specs.Search.{ActiveAxis, span_sum}
use Rattle.walk.specs.Underway.{IsCountable}
use Rattle.walk.specs.declared.two_axes.TwoAxes.{TwoAxes}
use Rattle.search.specs.Block.{Side}

-- the walk is set up for these two, and solves for the first
abbrev pub IsSetFor : ActiveAxis → ActiveAxis → TwoAxes → Type 0
IsSetFor a b t = (t.first ≡ a) × (t.second ≡ b)

-- two axes set apart and the others: the two as inputs and block leave them, and the spans of all together within a word
pub record IsParted (a b : ActiveAxis) (others : List ActiveAxis) : Type 0 where
  pub first : Side a.extent a.stride
  pub second : Side b.extent b.stride
  pub few : length others ≤ 16
  pub countable : All IsCountable others
  pub fits : span_sum (a ∷ b ∷ others) < 2 ^ 64
