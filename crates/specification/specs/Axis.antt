-- The axes of a layout, its positions, and the sum of index × stride at a position.
-- RULES, "What a layout is".
use Rattle.std.specs.List.{list_any}
use Rattle.std.specs.Prelude.{Bool, List, [], ◌∷◌, ◌≡◌, ◌≢◌, ℕ, ◌+◌, ◌-◌, ◌*◌, ◌/◌, ◌%◌, ◌<◌, ◌==◌, nat_lt, ℤ, pos, ◌+ℤ◌}
use Rattle.integer.specs.Multiple.{◌·◌}
use Rattle.integer.specs.Parts.{positive_part, negative_part}
-- an axis, as the code declares it: an extent, and a stride counted in readings
pub use Rattle.axis.specs.declared.Axis.{Axis}

-- the extents of axes, in their order
abbrev pub extents : List Axis → List ℕ
extents [] = []
extents (a ∷ rest) = a.extent ∷ extents rest

-- the strides of axes, in their order
abbrev pub strides : List Axis → List ℤ
strides [] = []
strides (a ∷ rest) = a.stride ∷ strides rest

-- extents and strides, paired to axes as far as the shorter list goes
unfoldable pub axes_of_lists : List ℕ → List ℤ → List Axis
axes_of_lists [] ss = []
axes_of_lists (n ∷ ns) [] = []
axes_of_lists (n ∷ ns) (s ∷ ss) = record { extent = n; stride = s } ∷ axes_of_lists ns ss

-- the product of a list
unfoldable pub product : List ℕ → ℕ
product [] = 1
product (n ∷ rest) = n * product rest

-- how many positions there are; rank 0 has one
abbrev pub positions : List Axis → ℕ
positions axes = product (extents axes)

-- the index vector at position k, axis 0 fastest
unfoldable pub index_at : List ℕ → ℕ → List ℕ
index_at [] k = []
index_at (n ∷ rest) k = k % n ∷ index_at rest (k / n)

-- the sum of index × stride, in whole numbers (`i · s` is i times s)
unfoldable pub offset_sum : List Axis → List ℕ → ℤ
offset_sum [] index = pos 0
offset_sum (a ∷ rest) [] = pos 0
offset_sum (a ∷ rest) (i ∷ index) = i · a.stride +ℤ offset_sum rest index

-- the sum at position k
abbrev pub sum_at : List Axis → ℕ → ℤ
sum_at axes k = offset_sum axes (index_at (extents axes) k)

-- two positions share an offset
pub record SharesOffset (axes : List Axis) : Type 0 where
  pub one : ℕ
  pub other : ℕ
  pub one_is : one < positions axes
  pub other_is : other < positions axes
  pub different : one ≢ other
  pub same : sum_at axes one ≡ sum_at axes other

-- some extent is 0, so there is no position
unfoldable pub is_empty : List Axis → Bool
is_empty = list_any (λ a. a.extent == 0)

-- an axis is active if its extent is above 1
abbrev pub active : Axis → Bool
active a = nat_lt 1 a.extent

-- stride × (extent - 1); it is 0 if the axis is not active
abbrev pub span : Axis → ℤ
span a = (a.extent - 1) · a.stride

-- the sum of the positive spans (`positive_part z` is z if z is above 0, else 0)
unfoldable pub upward : List Axis → ℕ
upward [] = 0
upward (a ∷ rest) = positive_part (span a) + upward rest

-- the sum of the negative spans, without their sign (`negative_part z` is -z if z is below 0, else 0)
unfoldable pub downward : List Axis → ℕ
downward [] = 0
downward (a ∷ rest) = negative_part (span a) + downward rest
