-- Where the block ends: the last axis of it, and each behind it, held against the absolute spans before.
use Rattle.std.specs.Prelude.{if◌then◌else◌}
use mathlib.Core.Path.{◌≡◌, refl, sym, ap}
use mathlib.Core.Bool.{Bool, true, false}
use mathlib.Core.List.{List, [], ◌∷◌, ◌++◌}
use Prim.Native.Nat.{ℕ, ◌+◌, ◌*◌, ◌-◌, ◌<◌, ◌≤◌}
use native.Mathlib.Omega.{arith}
use lib.Dec.{leb}
use lib.ListN.{length, length-append}
use borrow.Author.Tests.{leb-true, leb-false}
use Rattle.specification.specs.Search.{ActiveAxis, span_sum}
use Rattle.specification.specs.Verdict.{active_from, up_to_last, block_of}
use Rattle.specification.specs.BlockClaims.{sorted_active, IsSmaller, BlockClaims}
use Rattle.specification.proofs.Sorting.{each-two-at, perm-length, sort-perm}
use Rattle.specification.proofs.AxisNumbers.{active-ascend, in_order}
use Rattle.specification.proofs.ActiveAxes.{active-listed, sorted_entries}

-- what the spans come to with one axis more
abbrev past : ℕ → ActiveAxis → ℕ
past before a = before + (a.extent - 1) * a.stride

last-in-front : (before : ℕ) (l : List ActiveAxis) → (behind : List ActiveAxis) × (l ≡ up_to_last before l ++ behind)
unfolding up_to_last
last-in-front before [] = ([], refl)
last-in-front before (a ∷ r) = go (up_to_last (past before a) r) (leb a.stride before) (last-in-front (past before a) r)
  where
    go : (u : List ActiveAxis) (t : Bool) → (behind : List ActiveAxis) × (r ≡ u ++ behind)
        → (behind : List ActiveAxis) × (a ∷ r ≡ (elim u [ [] ↦ if t then a ∷ [] else [] | b ∷ more ↦ a ∷ b ∷ more ]) ++ behind)
    go [] true w = (r, refl)
    go [] false w = (a ∷ r, refl)
    go (b ∷ more) t w = (w.0, ap (λ (z : List ActiveAxis). a ∷ z) w.1)

last-bounded : (before : ℕ) (l front : List ActiveAxis) (last : ActiveAxis) → up_to_last before l ≡ front ++ (last ∷ []) → last.stride ≤ before + span_sum front
unfolding up_to_last span_sum
last-bounded before [] front last e = absurd (omega (arith, ap (λ (z : List ActiveAxis). length z) e, length-append front (last ∷ [])))
last-bounded before (a ∷ r) front last e = go (up_to_last (past before a) r) (leb a.stride before) front (leb-true _ _) (λ f q. last-bounded (past before a) r f last q) e
  where
    go : (u : List ActiveAxis) (t : Bool) (front : List ActiveAxis) → (t ≡ true → a.stride ≤ before) → ((f : List ActiveAxis) → u ≡ f ++ (last ∷ []) → last.stride ≤ past before a + span_sum f)
        → (elim u [ [] ↦ if t then a ∷ [] else [] | b ∷ more ↦ a ∷ b ∷ more ]) ≡ front ++ (last ∷ []) → last.stride ≤ before + span_sum front
    go [] true [] h ih e = let q : a ≡ last = cc in omega (arith, h refl, ap (λ (z : ActiveAxis). z.stride) q)
    go [] true (x ∷ f) h ih e = absurd (omega (arith, ap (λ (z : List ActiveAxis). length z) e, length-append f (last ∷ [])))
    go [] false front h ih e = absurd (omega (arith, ap (λ (z : List ActiveAxis). length z) e, length-append front (last ∷ [])))
    go (b ∷ more) t [] h ih e = absurd (omega (arith, ap (λ (z : List ActiveAxis). length z) e))
    go (b ∷ more) t (x ∷ f) h ih e =
        let q : a ≡ x = cc in
        omega (arith, ih f (cc), ap (λ (z : ActiveAxis). (z.extent - 1) * z.stride) q)

behind-unbounded : (before : ℕ) (l front : List ActiveAxis) (b : ActiveAxis) (behind : List ActiveAxis)
    → l ≡ front ++ (b ∷ behind) → length (up_to_last before l) ≤ length front → before + span_sum front < b.stride
unfolding up_to_last span_sum
behind-unbounded before [] front b behind e h = absurd (omega (arith, ap (λ (z : List ActiveAxis). length z) e, length-append front (b ∷ behind)))
behind-unbounded before (a ∷ r) front b behind e h = go (up_to_last (past before a) r) (leb a.stride before) front (leb-false _ _) (λ f q k. behind-unbounded (past before a) r f b behind q k) e h
  where
    go : (u : List ActiveAxis) (t : Bool) (front : List ActiveAxis) → (t ≡ false → before < a.stride)
        → ((f : List ActiveAxis) → r ≡ f ++ (b ∷ behind) → length u ≤ length f → past before a + span_sum f < b.stride)
        → a ∷ r ≡ front ++ (b ∷ behind) → length {A = ActiveAxis} (elim u [ [] ↦ if t then a ∷ [] else [] | c ∷ more ↦ a ∷ c ∷ more ]) ≤ length front → before + span_sum front < b.stride
    go [] true [] k ih e h = absurd (omega arith)
    go [] false [] k ih e h = let q : a ≡ b = cc in omega (arith, k refl, ap (λ (z : ActiveAxis). z.stride) q)
    go [] t (x ∷ f) k ih e h = let q : a ≡ x = cc in omega (arith, ih f (cc) (omega arith), ap (λ (z : ActiveAxis). (z.extent - 1) * z.stride) q)
    go (c ∷ more) t [] k ih e h = absurd (omega arith)
    go (c ∷ more) t (x ∷ f) k ih e h = let q : a ≡ x = cc in omega (arith, ih f (cc) (omega arith), ap (λ (z : ActiveAxis). (z.extent - 1) * z.stride) q)

pub block_claims : BlockClaims
unfolding block_of
block_claims = record {
  listed = active-listed;
  ascending = λ axes i h. each-two-at (λ a b. a.axis < b.axis) (active_from 0 axes) (active-ascend 0 axes) i (record { axis = 0; extent = 0; stride = 0 }) h;
  sorted = sorted_entries;
  as_many = λ before list. sym (perm-length (sort-perm before list));
  ordered = λ axes i h. each-two-at IsSmaller (sorted_active axes) (in_order axes) i (record { axis = 0; extent = 0; stride = 0 }) h;
  in_front = λ axes. last-in-front _ (sorted_active axes);
  last_of = λ axes front last e. omega (arith, last-bounded 0 (sorted_active axes) front last e);
  none_behind = λ axes front a behind e h. omega (arith, behind-unbounded 0 (sorted_active axes) front a behind e h);
}
