-- An axis more at the end of axes: what it does to their normal form, and to the array that holds it; and the pass over all axes.
use Rattle.std.specs.Prelude.{Some}
use Rattle.std.specs.Option.{option_eq}
use Rattle.std.specs.Ordering.{int_eq}
use Rattle.std.proofs.lemmas.Int.{ints}
use Rattle.std.proofs.lemmas.List.{take_all, take_more, take_more_set, take-append-drop}
use mathlib.Core.Path.{◌≡◌, refl, sym, ap, subst, ◌∙◌}
use mathlib.Core.Bool.{true, false}
use mathlib.Core.List.{List, [], ◌∷◌, ◌++◌, append_assoc}
use Prim.Native.Nat.{ℕ, zero, suc, ◌+◌, ◌*◌, ◌-◌, ◌≤◌, ◌<◌, ◌^◌}
use native.Mathlib.Nat.{mul_assoc, mul_comm, one-mul, zero-mul, mul-zero, mul-suc, mul-le-mul_right}
use native.Mathlib.Numerals.{add-one, unary_clauses}
use native.Mathlib.Omega.{arith}
use lib.Dec.{T}
use lib.IntN.{ℤ, pos}
use lib.ListN.{length, take, drop, set, length-set}
use borrow.Author.Tests.{ne_eqb}
use mir.Syntax.{w64}
use mir.Val.{SFits}
use Rattle.integer.specs.Multiple.{◌·◌}
use Rattle.integer.specs.Range.{checked_of}
use Rattle.integer.proofs.MultipleLaws.{int_eq-yes, ·-mul}
use Rattle.specification.specs.Axis.{Axis, extents, positions, product, is_empty}
use Rattle.specification.specs.Layout.{LayoutModel}
use Rattle.specification.specs.Normal.{both, continues, merge_into, merge, normal_axes, normal_of}
use Rattle.specification.specs.Views.{axis_at, with_axes}
use Rattle.specification.proofs.NormalAxes.{positions-of-normal}
use Rattle.specification.proofs.NormalLaws.{empty_axes, empty-none, normal-of-empty, normal_of_full}
use Rattle.specification.proofs.OutcomeLaws.{false-unless}
use Rattle.view.specs.Model.{first_axes}
use Rattle.view.specs.Table.{table}
use Rattle.view.proofs.AxesLaws.{first_axes_take}
use Rattle.view.proofs.CountLaws.{empty_extents, product-above}
use Rattle.record.specs.Normal.{with_last, with_axis}

-- a product in range is compared; one out of range equals no stride
pub continues_tested : (s z : ℤ) → SFits w64 s → option_eq int_eq (checked_of z) (Some s) ≡ int_eq s z
continues_tested s z f = grind (arith, ints)

-- ---- the normal form of one axis more

-- what continues two axes in one continues the second
continues-both : (a c b : Axis) → continues a c ≡ true → continues (both a c) b ≡ continues c b
continues-both a c b e =
    ap (int_eq b.stride) (ap (λ (n : ℕ). n · a.stride) (mul_comm a.extent c.extent) ∙ sym (·-mul c.extent a.extent a.stride)
    ∙ ap (λ (z : ℤ). c.extent · z) (sym (int_eq-yes c.stride (a.extent · a.stride) (subst T (sym e) tt))))

-- an axis in front and one behind: which is taken first makes no difference
into-with_last : (a : Axis) (axes : List Axis) (b : Axis) → merge_into a (with_last axes b) ≡ with_last (merge_into a axes) b
unfolding merge_into with_last
into-with_last a [] b = refl
into-with_last a (c ∷ []) b = grind (arith, continues-both a c b, mul_assoc a.extent c.extent b.extent)
into-with_last a (c ∷ d ∷ rest) b = grind arith

-- one axis more at the end: the pass from the left makes what the definition makes from the right
normal-last : (axes : List Axis) (b : Axis) → normal_axes (axes ++ b ∷ []) ≡ with_axis (normal_axes axes) b
unfolding normal_axes merge merge_into with_last
normal-last [] b = grind arith
normal-last (a ∷ axes) b = let rest = normal-last axes b in grind (arith, into-with_last a (normal_axes axes) b)

-- ---- the array that holds it

-- behind axes of which the last is known
with_last-append : (front : List Axis) (a b : Axis) → with_last (front ++ a ∷ []) b ≡ front ++ merge_into a (b ∷ [])
unfolding with_last
with_last-append [] a b = refl
with_last-append (c ∷ []) a b = refl
with_last-append (c ∷ d ∷ rest) a b = ap (λ (l : List Axis). c ∷ l) (with_last-append (d ∷ rest) a b)

-- the first axes where one was stored behind them
first-set : (axes : List Axis) (n : ℕ) (v : Axis) → n < length axes → first_axes (set axes n v) (n + 1) ≡ first_axes axes n ++ v ∷ []
first-set axes n v h =
    first_axes_take (set axes n v) (n + 1) (omega (arith, length-set {A = Axis})) ∙ take_more_set axes n v h
    ∙ ap (λ (l : List Axis). l ++ v ∷ []) (sym (first_axes_take axes n (omega arith)))

module _ (axes : List Axis) (b : Axis) (long : ¬ (b.extent ≡ 1)) where
  -- an axis that continues the last one is merged into it
  pub merged_into : (n m : ℕ) → n ≡ m + 1 → m < length axes → continues (axis_at axes m) b ≡ true
      → first_axes (set axes m (both (axis_at axes m) b)) n ≡ with_axis (first_axes axes n) b
  unfolding merge_into table
  merged_into n m e h c =
      rw (e, first-set axes m (both (axis_at axes m) b) h, add-one, ne_eqb b.extent 1 long, with_last-append (first_axes axes m) (axis_at axes m) b, c)

  -- another is stored behind it
  pub stored_behind : (n : ℕ) → n < length axes → (0 < n → continues (axis_at axes (n - 1)) b ≡ false)
      → first_axes (set axes n b) (n + 1) ≡ with_axis (first_axes axes n) b
  unfolding merge_into table with_last
  stored_behind zero h c = rw (first-set axes 0 b h, ne_eqb b.extent 1 long)
  stored_behind (suc m) h c =
      let f : continues (axis_at axes m) b ≡ false = simp unary_clauses at (c (omega arith)) in
      rw (first-set axes (suc m) b h, ne_eqb b.extent 1 long, with_last-append (first_axes axes m) (axis_at axes m) b, f) (append_assoc (first_axes axes m) (axis_at axes m ∷ []) (b ∷ []))

-- ---- the extents fit

positions-append : (xs ys : List Axis) → positions (xs ++ ys) ≡ positions xs * positions ys
unfolding product
positions-append [] ys = sym (one-mul (positions ys))
positions-append (a ∷ xs) ys = rw (positions-append xs ys) (sym (mul_assoc a.extent (positions xs) (positions ys)))

-- the factors of a product that is not 0 are not 0, and at most the product
factor-within : (factor rest whole : ℕ) → factor * rest ≡ whole → 0 < whole → (0 < factor) × (factor ≤ whole)
factor-within zero rest whole e h = absurd (omega (arith, zero-mul rest))
factor-within factor zero whole e h = absurd (omega (arith, mul-zero factor))
factor-within (suc factor) (suc rest) whole e h = (omega arith, omega (arith, mul-suc (suc factor) rest))

-- an extent into which another is merged
pub last_fits : (axes : List Axis) (n extent : ℕ) → 0 < n → 0 < positions (first_axes axes n) → positions (first_axes axes n) * extent < 2 ^ 64
    → (axis_at axes (n - 1)).extent * extent < 2 ^ 64
unfolding product table
last_fits axes zero extent h k l = absurd (omega arith)
last_fits axes (suc m) extent h k l =
    let w = factor-within (axis_at axes m).extent (positions (first_axes axes m)) (positions (first_axes axes (suc m))) (rw positions-append (omega (arith, mul_comm (axis_at axes m).extent (positions (first_axes axes m))))) k in
    let one_less : suc m - 1 ≡ m = omega arith in
    rw one_less (omega (arith, mul-le-mul_right extent w.1))

pub ruleset appended = (merged_into, stored_behind, last_fits)

-- ---- the normal form by the number of positions

module _ (l : LayoutModel) where
  pub no_position : positions l.axes ≡ 0 → normal_of l ≡ record { buffer = l.buffer; offset = pos 0; axes = empty_axes }
  no_position e = normal-of-empty l (grind (arith, ints, empty_extents l.axes, product-above (extents l.axes)))

  pub some_position : 0 < positions l.axes → normal_of l ≡ with_axes l (normal_axes l.axes)
  some_position h = normal_of_full l (false-unless (is_empty l.axes) (empty-none l.axes) (λ e. omega arith))

-- ---- the pass

-- nothing is passed yet
pub none_passed : (axes : List Axis) → first_axes axes 0 ≡ normal_axes []
unfolding table normal_axes merge
none_passed axes = refl

module _ (axes : List Axis) (i : ℕ) (h : i < length axes) where
  -- one axis more
  pub axis_passed : normal_axes (take (i + 1) axes) ≡ with_axis (normal_axes (take i axes)) (axis_at axes i)
  axis_passed = ap normal_axes (take_more axes i _ h) ∙ normal-last (take i axes) (axis_at axes i)

  -- there are positions so far, and with one axis more at most all
  pub positions_passed : 0 < positions axes
      → (0 < positions (normal_axes (take i axes))) × (positions (normal_axes (take i axes)) * (axis_at axes i).extent ≤ positions axes)
  unfolding product
  positions_passed k =
      let whole : (n : ℕ) → positions (take n axes) * positions (drop n axes) ≡ positions axes = λ n. sym (positions-append (take n axes) (drop n axes)) ∙ ap positions (take-append-drop n axes) in
      let so_far = factor-within (positions (take i axes)) (positions (drop i axes)) (positions axes) (whole i) k in
      let and_one = factor-within (positions (take (i + 1) axes)) (positions (drop (i + 1) axes)) (positions axes) (whole (i + 1)) k in
      let split : positions (take (i + 1) axes) ≡ positions (take i axes) * ((axis_at axes i).extent * 1) = ap positions (take_more axes i _ h) ∙ positions-append (take i axes) (axis_at axes i ∷ []) in
      rw (positions-of-normal (take i axes)) (so_far.0, omega (arith, split, and_one.1))

pub ruleset passed = (none_passed, axis_passed, positions_passed, take_all, some_position)
