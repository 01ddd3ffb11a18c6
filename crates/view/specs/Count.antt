-- The number of positions, as the code answers it.
use Rattle.std.specs.Prelude.{not, ◌&&◌, List, [], ◌∷◌, map, ◌≡◌, refl, ℕ, nat_lt}
use Rattle.integer.specs.Range.{most_unsigned}
use Rattle.specification.specs.Outcome.{Outcome, done, refuse_if, ◌>>◌}
use Rattle.specification.specs.Axis.{Axis, extents, product, positions}
use Rattle.specification.specs.Beside.{zero_among}
use Rattle.specification.specs.Layout.{is_too_long}
use Rattle.specification.specs.Normal.{overfull}

-- how many positions these extents have: 1 for more than 16 of them; 8 if none is 0 and there are more than 2^64 - 1 positions
unfoldable pub element_count : List ℕ → Outcome ℕ
element_count extents =
    refuse_if (is_too_long extents) 1 []
    >> refuse_if (not (zero_among extents) && nat_lt most_unsigned (product extents)) 8 []
    >> done (product extents)

-- how many positions axes have: 8 as the normal form refuses it. Up to 16 axes it is the count of their extents
-- (`ElementCountClaims.of_axes`), so that strides do not matter
unfoldable pub count_of : List Axis → Outcome ℕ
count_of axes = refuse_if (overfull axes) 8 [] >> done (positions axes)

-- a list is its own extents, one by one
pub map_same : (list : List ℕ) → list ≡ map (λ n. n) list
map_same [] = refl
map_same (n ∷ rest) = rw (← map_same rest)

-- the extents of axes, one by one
pub extents_map : (axes : List Axis) → extents axes ≡ map (λ a. a.extent) axes
extents_map [] = refl
extents_map (a ∷ rest) = rw (extents_map rest)
