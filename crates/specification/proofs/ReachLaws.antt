-- The lowest and the highest offset are offsets of positions, none lies outside, and the tests on them say what is accepted.
use Rattle.std.specs.List.{list_any}
use Rattle.std.specs.Prelude.{if◌then◌else◌}
use mathlib.Core.Path.{◌≡◌, refl, ap, ◌∙◌}
use mathlib.Core.Bool.{Bool, true, false, not, ◌&&◌, ◌||◌}
use mathlib.Core.List.{List, [], ◌∷◌}
use mathlib.Core.Logic.{◌⊎◌, inl, inr}
use Prim.Native.Nat.{ℕ, ◌+◌, ◌-◌, ◌<◌, ◌≤◌}
use native.Mathlib.Nat.{mul-le-mul_right}
use native.Mathlib.Omega.{arith}
use lib.IntN.{ℤ, pos, negsuc, ◌+ℤ◌}
use lib.Signed.{le_z, lt_z}
use Rattle.integer.specs.Multiple.{◌·◌}
use Rattle.integer.specs.Parts.{positive_part, negative_part}
use Rattle.integer.proofs.MultipleLaws.{multiples, positive_part-·, negative_part-·}
use Rattle.integer.specs.Range.{fits, most_signed}
use Rattle.specification.specs.Axis.{Axis, extents, offset_sum, is_empty, span, upward, downward}
use Rattle.specification.specs.Outcome.{pass, refuse_if}
use Rattle.specification.specs.Layout.{LayoutModel, rank, IsAccepted, lowest, highest, is_in_reach}
use Rattle.specification.specs.CheckIn.{is_too_wide, bounds}
use Rattle.specification.specs.ReachClaims.{Reach}
use Rattle.specification.proofs.NormalAxes.{AllPositive}
use Rattle.specification.proofs.Positions.{IndexVector, empty, ◌and◌, place, indices-within, indices-place, place-lt}
use Rattle.specification.proofs.NormalLaws.{full-pos, empty-none}
use Rattle.std.proofs.lemmas.Int.{ints}

-- ---- the two ends

abbrev low_of : ℕ → ℤ → ℕ
low_of n (pos s) = 0
low_of n (negsuc s) = n - 1

abbrev high_of : ℕ → ℤ → ℕ
high_of n (pos s) = n - 1
high_of n (negsuc s) = 0

abbrev low_index : List Axis → List ℕ
low_index [] = []
low_index (a ∷ r) = low_of a.extent a.stride ∷ low_index r

abbrev high_index : List Axis → List ℕ
high_index [] = []
high_index (a ∷ r) = high_of a.extent a.stride ∷ high_index r

one-low : (n : ℕ) (s : ℤ) → positive_part (low_of n s · s) + negative_part ((n - 1) · s) ≡ negative_part (low_of n s · s)
one-low n (pos s) = simp (positive_part-·, negative_part-·) (omega arith)
one-low n (negsuc s) = simp (positive_part-·, negative_part-·) (omega arith)

one-high : (n : ℕ) (s : ℤ) → positive_part (high_of n s · s) ≡ positive_part ((n - 1) · s) + negative_part (high_of n s · s)
one-high n (pos s) = simp (positive_part-·, negative_part-·) (omega arith)
one-high n (negsuc s) = simp (positive_part-·, negative_part-·) (omega arith)

low-lt : (n : ℕ) (s : ℤ) → 0 < n → low_of n s < n
low-lt n s h = grind (arith, ints)

high_lt : (n : ℕ) (s : ℤ) → 0 < n → high_of n s < n
high_lt n s h = grind (arith, ints)

low-box : {l : List Axis} → AllPositive l → IndexVector (extents l) (low_index l)
low-box AllPositive.none = empty
low-box (AllPositive.more {a} h t) = ◌and◌ (low-lt a.extent a.stride h) (low-box t)

high-box : {l : List Axis} → AllPositive l → IndexVector (extents l) (high_index l)
high-box AllPositive.none = empty
high-box (AllPositive.more {a} h t) = ◌and◌ (high_lt a.extent a.stride h) (high-box t)

low_sum : (l : List Axis) → positive_part (offset_sum l (low_index l)) + downward l ≡ negative_part (offset_sum l (low_index l))
unfolding offset_sum downward
low_sum [] = refl
low_sum (a ∷ r) = omega (arith, ints, low_sum r, one-low a.extent a.stride)

high_sum : (l : List Axis) → positive_part (offset_sum l (high_index l)) ≡ upward l + negative_part (offset_sum l (high_index l))
unfolding offset_sum upward
high_sum [] = refl
high_sum (a ∷ r) = omega (arith, ints, high_sum r, one-high a.extent a.stride)

-- ---- none outside

low-all : (l : List Axis) {x : List ℕ} → IndexVector (extents l) x → negative_part (offset_sum l x) ≤ downward l + positive_part (offset_sum l x)
unfolding offset_sum downward
low-all [] empty = omega arith
low-all (a ∷ r) (◌and◌ {i = i} {is = x} h b) =
    let k : i ≤ a.extent - 1 = omega arith in
    omega (arith, multiples, low-all r b, mul-le-mul_right (negative_part a.stride) k)

high-all : (l : List Axis) {x : List ℕ} → IndexVector (extents l) x → positive_part (offset_sum l x) ≤ upward l + negative_part (offset_sum l x)
unfolding offset_sum upward
high-all [] empty = omega arith
high-all (a ∷ r) (◌and◌ {i = i} {is = x} h b) =
    let k : i ≤ a.extent - 1 = omega arith in
    omega (arith, multiples, high-all r b, mul-le-mul_right (positive_part a.stride) k)

-- ---- the claims

module _ (l : LayoutModel) (e : is_empty l.axes ≡ false) where
  hp : AllPositive l.axes
  hp = full-pos l.axes e

  low_is : l.offset +ℤ offset_sum l.axes (low_index l.axes) ≡ lowest l
  low_is = omega (arith, ints, low_sum l.axes)

  high_is : l.offset +ℤ offset_sum l.axes (high_index l.axes) ≡ highest l
  high_is = omega (arith, ints, high_sum l.axes)

  pub reach_of : Reach l
  reach_of = record {
    low_at = place (extents l.axes) (low_index l.axes);
    low_is = place-lt l.axes (low-box hp);
    low = ap (λ (x : List ℕ). l.offset +ℤ offset_sum l.axes x) (indices-place l.axes (low-box hp)) ∙ low_is;
    high_at = place (extents l.axes) (high_index l.axes);
    high_is = place-lt l.axes (high-box hp);
    high = ap (λ (x : List ℕ). l.offset +ℤ offset_sum l.axes x) (indices-place l.axes (high-box hp)) ∙ high_is;
    between = λ k h. let b = indices-within hp k h in (
      omega (arith, ints, low-all l.axes b),
      omega (arith, ints, high-all l.axes b),
    );
  }

-- a value whose parts are small fits
pub fits-small : (z : ℤ) → positive_part z ≤ most_signed → negative_part z ≤ most_signed → fits z ≡ true
fits-small z p n = grind (arith, ints)

-- what the test says of a layout that is not empty
pub record Within (l : LayoutModel) : Type 0 where
  pub w_low : negative_part (lowest l) ≤ positive_part (lowest l)
  pub w_most : positive_part (highest l) ≤ most_signed + negative_part (highest l)
  pub w_in : positive_part (highest l) < l.buffer + negative_part (highest l)

pub and-true : (x y : Bool) → (x && y) ≡ true → (x ≡ true) × (y ≡ true)
and-true x y e = grind (arith, ints)

pub tests : (l : LayoutModel) → (le_z (pos 0) (lowest l) && le_z (highest l) (pos most_signed) && lt_z (highest l) (pos l.buffer)) ≡ true → Within l
tests l e = grind (arith, ints)

pub untests : (l : LayoutModel) → Within l → (le_z (pos 0) (lowest l) && le_z (highest l) (pos most_signed) && lt_z (highest l) (pos l.buffer)) ≡ true
untests l w = grind (arith, ints, w.w_low, w.w_most, w.w_in)

pub accepted-within : (l : LayoutModel) → is_empty l.axes ≡ false → IsAccepted l → Within l
accepted-within l e a =
    let r = reach_of l e in
    let lo = a.offsets r.low_at r.low_is in
    let hi = a.offsets r.high_at r.high_is in
    record {
      w_low = omega (arith, ints, rw r.low at lo.from_zero);
      w_most = omega (arith, ints, rw r.high at hi.to_most);
      w_in = omega (arith, ints, rw r.high at hi.in_buffer);
    }

-- so the spans together fit
pub spans_fit : (l : LayoutModel) → is_empty l.axes ≡ false → IsAccepted l → upward l.axes + downward l.axes ≤ most_signed
spans_fit l e a =
    let w = accepted-within l e a in
    omega (arith, ints, w.w_low, w.w_most)

pub within-accepted : (l : LayoutModel) → is_empty l.axes ≡ false → rank l ≤ 16 → Within l → IsAccepted l
within-accepted l e n w =
    let r = reach_of l e in
    record {
      few = n;
      offsets = λ k h. let b = r.between k h in record {
        from_zero = omega (arith, ints, b.0, w.w_low);
        to_most = omega (arith, ints, b.1, w.w_most);
        in_buffer = omega (arith, ints, b.1, w.w_in);
      };
    }

pub tested-yes : (l : LayoutModel) → IsAccepted l → is_in_reach l ≡ true
unfolding is_in_reach
tested-yes l a = go (is_empty l.axes) refl
  where
    go : (t : Bool) → is_empty l.axes ≡ t → (t || (le_z (pos 0) (lowest l) && le_z (highest l) (pos most_signed) && lt_z (highest l) (pos l.buffer))) ≡ true
    go true e = refl
    go false e = untests l (accepted-within l e a)

pub tested-no : (l : LayoutModel) → rank l ≤ 16 → is_in_reach l ≡ true → IsAccepted l
unfolding is_in_reach
tested-no l n q = go (is_empty l.axes) refl q
  where
    go : (t : Bool) → is_empty l.axes ≡ t → (t || (le_z (pos 0) (lowest l) && le_z (highest l) (pos most_signed) && lt_z (highest l) (pos l.buffer))) ≡ true → IsAccepted l
    go true e q = record { few = n; offsets = λ k h. absurd (omega (arith, empty-none l.axes e)) }
    go false e q = within-accepted l e n (tests l q)

pub or-false : (x y : Bool) → (x || y) ≡ false → (x ≡ false) × (y ≡ false)
or-false x y e = grind (arith, ints)

pass-false : (t : Bool) → refuse_if t 3 [] ≡ pass → t ≡ false
unfolding refuse_if
pass-false t e = grind (arith, ints)

-- check-in lets pass an empty layout, and one with no extent too wide whose ends are within
pub bounds-within : (l : LayoutModel) → bounds l ≡ pass → (is_empty l.axes ≡ true) ⊎ ((list_any is_too_wide l.axes ≡ false) × Within l)
unfolding bounds
bounds-within l q = go (is_empty l.axes) refl q
  where
    within : (a b : Bool) → (a || b || lt_z (pos most_signed) (highest l) || lt_z (lowest l) (pos 0) || le_z (pos l.buffer) (highest l)) ≡ false → (a ≡ false) × Within l
    within a b e = grind (arith, ints)

    go : (t : Bool) → is_empty l.axes ≡ t
        → (if t then pass else refuse_if (list_any is_too_wide l.axes || list_any (λ a. not (fits (span a))) l.axes || lt_z (pos most_signed) (highest l) || lt_z (lowest l) (pos 0) || le_z (pos l.buffer) (highest l)) 3 []) ≡ pass
        → (is_empty l.axes ≡ true) ⊎ ((list_any is_too_wide l.axes ≡ false) × Within l)
    go true e q = inl e
    go false e q = inr (within (list_any is_too_wide l.axes) (list_any (λ a. not (fits (span a))) l.axes) (pass-false _ q))

pub bounds-reach : (l : LayoutModel) → bounds l ≡ pass → is_in_reach l ≡ true
unfolding is_in_reach
bounds-reach l q = go (bounds-within l q)
  where
    or_right : (t u : Bool) → u ≡ true → (t || u) ≡ true
    or_right true u e = refl
    or_right false u e = e

    go : (is_empty l.axes ≡ true) ⊎ ((list_any is_too_wide l.axes ≡ false) × Within l) → (is_empty l.axes || (le_z (pos 0) (lowest l) && le_z (highest l) (pos most_signed) && lt_z (highest l) (pos l.buffer))) ≡ true
    go (inl e) = rw e
    go (inr w) = or_right (is_empty l.axes) _ (untests l w.1)
