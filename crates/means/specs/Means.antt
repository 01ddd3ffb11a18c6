-- Means of readings along an axis: the refusals, the means, and the output afterwards.
-- RULES, "Means along an axis".
use Rattle.std.specs.Prelude.{List, [], ◌∷◌, ◌++◌, map, ℕ, zero, suc, nat_lt, nat_le, ◌==◌, ℤ, pos, ◌+ℤ◌, drop, remove, slice_index_or}
use Rattle.std.specs.List.{range_with_len}
use Rattle.integer.specs.Multiple.{◌·◌}
use Rattle.integer.specs.Parts.{positive_part}
use Rattle.specification.specs.Axis.{positions}
use Rattle.specification.specs.Layout.{LayoutModel, rank, offset_at, handed}
use Rattle.specification.specs.Normal.{overfull}
use Rattle.specification.specs.Outcome.{Outcome, Check, done, refused, refuse_if, ◌>>◌}
use Rattle.specification.specs.Readings.{is_too_short}
use Rattle.specification.specs.Views.{with_axes, axis_at}
use Rattle.means.specs.Rounded.{rounded}

-- the layout of the remaining axes: all but the chosen one, in their order
unfoldable pub remaining : LayoutModel → ℕ → LayoutModel
remaining l axis = with_axes l (remove l.axes axis)

-- how many means there are: the positions of the remaining axes
abbrev pub mean_count : LayoutModel → ℕ → ℕ
mean_count l axis = positions (remaining l axis).axes

-- the extent of the chosen axis
abbrev pub extent_along : LayoutModel → ℕ → ℕ
extent_along l axis = (axis_at l.axes axis).extent

-- the offset of reading i of the mean at position k: i strides of the chosen axis on from that position
abbrev pub offset_along : LayoutModel → ℕ → ℕ → ℕ → ℤ
offset_along l axis k i = offset_at (remaining l axis) k +ℤ i · (axis_at l.axes axis).stride

-- the reading there
abbrev pub reading_along : LayoutModel → ℕ → List ℤ → ℕ → ℕ → ℤ
reading_along l axis readings k i = slice_index_or readings (positive_part (offset_along l axis k i)) (pos 0)

-- f 0, .., f (n - 1), added
unfoldable pub sum_of : (ℕ → ℤ) → ℕ → ℤ
sum_of f zero = pos 0
sum_of f (suc n) = sum_of f n +ℤ f n

-- the mean at position k: its readings are summed whole, and the sum is divided once
unfoldable pub mean_at : LayoutModel → ℕ → List ℤ → ℕ → ℤ
mean_at l axis readings k = rounded (sum_of (reading_along l axis readings k) (extent_along l axis)) (extent_along l axis)

-- the first so many means, in position order of the remaining axes
abbrev pub first_means : LayoutModel → ℕ → List ℤ → ℕ → List ℤ
first_means l axis readings count = map (mean_at l axis readings) (range_with_len 0 count)

-- 15 for no reading along the axis, 16 for more than 65,536
unfoldable pub extent_rule : ℕ → Check
extent_rule extent =
    refuse_if (extent == 0) 15 []
    >> refuse_if (nat_lt 65536 extent) 16 []

-- refusals 1, 3, 5, 8, 13, 10, 15, 16; then how many means are written
unfoldable pub means_of : LayoutModel → ℕ → ℕ → ℕ → Outcome ℕ
means_of l axis readings room =
    handed l 0
    >> refuse_if (nat_le (rank l) axis) 5 (axis ∷ rank l ∷ [])
    >> refuse_if (overfull (remaining l axis).axes) 8 []
    >> refuse_if (is_too_short l readings) 13 []
    >> refuse_if (nat_lt room (mean_count l axis)) 10 (mean_count l axis ∷ [])
    >> extent_rule (extent_along l axis)
    >> done (mean_count l axis)

-- the output after the call: the means, and behind them what was there; a refusal leaves it
unfoldable pub means_after : Outcome ℕ → LayoutModel → ℕ → List ℤ → List ℤ → List ℤ
means_after (done count) l axis readings out = first_means l axis readings count ++ drop count out
means_after (refused number values) l axis readings out = out
