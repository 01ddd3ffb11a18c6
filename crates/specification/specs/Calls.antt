-- Lists of calls: the calls of the views, what each answers, and the layout at the end.
-- RULES, "Equal records".
use Rattle.std.specs.Prelude.{List, [], ◌∷◌, ℕ}
use Rattle.specification.specs.Outcome.{Check}
use Rattle.specification.specs.Layout.{LayoutModel}
use Rattle.specification.specs.Views.{After, permute, diagonal_view, broadcast}

-- a call of a view, with its arguments
pub data Call : Type 0 where
  permuting : List ℕ → Call
  diagonal : List (ℕ × ℕ) → Call
  broadcasting : List ℕ → Call

-- what a call answers, and the layout after it
unfoldable pub after_call : LayoutModel → Call → After
after_call l (permuting order) = permute l order
after_call l (diagonal pairs) = diagonal_view l pairs
after_call l (broadcasting targets) = broadcast l targets

-- the answers of the calls of a list, in turn
unfoldable pub answers_of : LayoutModel → List Call → List Check
answers_of l [] = []
answers_of l (c ∷ calls) = (after_call l c).answer ∷ answers_of (after_call l c).layout calls

-- the end layout: what the last call hands on, also if it is refused; with no calls, the start
unfoldable pub end_of : LayoutModel → List Call → LayoutModel
end_of l [] = l
end_of l (c ∷ calls) = end_of (after_call l c).layout calls
