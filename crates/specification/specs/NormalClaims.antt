-- Claims on the normal form: the same offsets, canonical, and reached by every order of dropping and merging.
-- RULES, "The normal form".
use Rattle.std.specs.Prelude.{false, List, ◌∷◌, ◌↔◌, ◌≡◌, ℕ, ◌<◌}
use Rattle.integer.specs.Multiple.{◌·◌}
use Rattle.specification.specs.Axis.{Axis, positions, is_empty}
use Rattle.specification.specs.Layout.{LayoutModel, offset_at}
use Rattle.specification.specs.Normal.{both, normal_axes, normal_of}

-- as many positions, and the same offset at each position
pub record SameOffsets (x y : LayoutModel) : Type 0 where
  pub as_many : positions x.axes ≡ positions y.axes
  pub alike : (k : ℕ) → k < positions x.axes → offset_at x k ≡ offset_at y k

-- equal but for the buffer length
pub record SameForm (x y : LayoutModel) : Type 0 where
  pub same_offset : x.offset ≡ y.offset
  pub same_axes : x.axes ≡ y.axes

-- one step of making normal, anywhere: an axis of extent 1 is dropped, or two neighbours are merged
pub data Step : List Axis → List Axis → Type 0 where
  dropped : {a : Axis} {rest : List Axis} → a.extent ≡ 1 → Step (a ∷ rest) rest
  merged : {a b : Axis} {rest : List Axis} → b.stride ≡ a.extent · a.stride → Step (a ∷ b ∷ rest) (both a b ∷ rest)
  further : {a : Axis} {rest more : List Axis} → Step rest more → Step (a ∷ rest) (a ∷ more)

-- steps until none is left
pub data Steps : List Axis → List Axis → Type 0 where
  ended : {l : List Axis} → ((m : List Axis) → ¬ (Step l m)) → Steps l l
  next : {l m n : List Axis} → Step l m → Steps m n → Steps l n

-- the normal form has the same offsets, is canonical, and does not depend on the order of merging
pub record NormalClaims : Type 0 where
  pub same : (l : LayoutModel) → SameOffsets (normal_of l) l
  -- the buffer length stays, also when empty
  pub same_buffer : (l : LayoutModel) → (normal_of l).buffer ≡ l.buffer
  -- canonical: equal normal forms exactly for equal offsets
  pub canonical : (x y : LayoutModel) → SameForm (normal_of x) (normal_of y) ↔ SameOffsets x y
  -- any order of dropping and merging that cannot go on ends there
  pub any_order : (l m : List Axis) → is_empty l ≡ false → Steps l m → m ≡ normal_axes l
