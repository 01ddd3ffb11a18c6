-- The search on a block: what it is given, and what its answer stands for (RULES, "The verdict: search").
use Rattle.std.specs.Prelude.{List, [], ◌∷◌, ℕ, ◌^◌, ◌<◌, ◌≤◌, length, None, Option, Some}
use Rattle.specification.specs.Search.{ActiveAxis, span_sum}
use Rattle.specification.specs.Verdict.{Plan, answered, Distinct as is_distinct, Repeated as is_repeated}
use Rattle.sorting.specs.Numbered.{IsNumbered}
use Rattle.search.specs.declared.Searched.{Searched}
use Rattle.search.specs.declared.Searched.TheVariants.{Repeated, Distinct}

-- ---- what is answered

-- the plan that an answer stands for
abbrev pub searched_plan : Searched → Plan
searched_plan (Repeated count) = answered is_repeated count
searched_plan (Distinct count) = answered is_distinct count

-- with `past`, the plan above the budget
abbrev pub block_plan : Option Searched → Plan → Plan
block_plan None past = past
block_plan (Some searched) past = searched_plan searched

-- ---- what is given

-- what inputs and block leave of an axis: extent 2 to 2^63, absolute stride 1 to 2^63 - 1
pub record Side (extent stride : ℕ) : Type 0 where
  pub long : 1 < extent
  pub low : extent ≤ 2 ^ 63
  pub moves : 0 < stride
  pub stride_low : stride < 2 ^ 63

abbrev pub Sides : List ActiveAxis → Type 0
Sides [] = Unit {0}
Sides (a ∷ rest) = Side a.extent a.stride × Sides rest

-- a block that can be searched: at most 16 axes, no two of one number, each as inputs and block leave it, their spans together within a word
pub record IsSearchable (block : List ActiveAxis) : Type 0 where
  pub few : length block ≤ 16
  pub numbered : IsNumbered block
  pub sides : Sides block
  pub fits : span_sum block < 2 ^ 64
