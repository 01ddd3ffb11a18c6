-- The list of active axes: which axes stand in it, and that sorting keeps the entries of a list.
use Rattle.std.specs.Prelude.{if◌then◌else◌}
use mathlib.Core.Path.{◌≡◌, sym, ap, ◌∙◌}
use mathlib.Core.Bool.{Bool, true, false, not}
use mathlib.Core.List.{List, [], ◌∷◌}
use mathlib.Core.Logic.{◌↔◌}
use Prim.Native.Nat.{ℕ, zero, suc, ◌+◌, ◌<◌, ◌≤◌}
use native.Mathlib.Omega.{arith}
use lib.Dec.{T, ltb, ltb→lt, nltb→le}
use lib.IntN.{nat_abs}
use lib.ListN.{length}
use Rattle.specification.specs.Tests.{sort_by}
use Rattle.specification.specs.Axis.{Axis}
use Rattle.specification.specs.Views.{axis_at}
use Rattle.specification.specs.Search.{ActiveAxis}
use Rattle.specification.specs.Verdict.{active_from}
use Rattle.specification.specs.BlockClaims.{EntryOf, ActiveAxisOf}
use Rattle.specification.proofs.AxisOrder.{Perm, nil, skip, swap, trans, perm-sym}
use Rattle.specification.proofs.Sorting.{sort-perm}
use Rattle.std.proofs.lemmas.Int.{ints}

-- ---- entries

no-entry : {a : ActiveAxis} → ¬ (EntryOf [] a)
no-entry w = omega (arith, w.in_list)

first_entry : {a b : ActiveAxis} (rest : List ActiveAxis) → b ≡ a → EntryOf (b ∷ rest) a
first_entry rest e = record { place = 0; in_list = omega arith; stands_there = e }

later-entry : {a : ActiveAxis} (b : ActiveAxis) {rest : List ActiveAxis} → EntryOf rest a → EntryOf (b ∷ rest) a
later-entry b w = record { place = suc w.place; in_list = omega (arith, w.in_list); stands_there = w.stands_there }

-- an entry is the first or one of the rest
pub entry-cases : {a b : ActiveAxis} {rest : List ActiveAxis} {P : Type 0} → (b ≡ a → P) → (EntryOf rest a → P) → EntryOf (b ∷ rest) a → P
entry-cases f g w = grind (arith, ints)

entry-perm : {a : ActiveAxis} {l m : List ActiveAxis} → Perm l m → EntryOf l a → EntryOf m a
entry-perm nil w = w
entry-perm (skip {a = b} {m = m} p) w = entry-cases (first_entry m) (λ v. later-entry b (entry-perm p v)) w
entry-perm (swap {a = b} {b = c} {l = l}) w = entry-cases (λ e. later-entry c (first_entry l e)) (λ v. entry-cases (first_entry (b ∷ l)) (λ u. later-entry c (later-entry b u)) v) w
entry-perm (trans p q) w = entry-perm q (entry-perm p w)

pub sorted_entries : (before : ActiveAxis → ActiveAxis → Bool) (list : List ActiveAxis) (a : ActiveAxis) → EntryOf (sort_by before list) a ↔ EntryOf list a
sorted_entries before list a = (entry-perm (perm-sym (sort-perm before list)), entry-perm (sort-perm before list))

-- ---- the active axes

-- a is axis number `index` of axes numbered from k on
record NumberedFrom (k : ℕ) (axes : List Axis) (a : ActiveAxis) : Type 0 where
  index : ℕ
  in_rank : index < length axes
  number_is : a.axis ≡ k + index
  extent_is : a.extent ≡ (axis_at axes index).extent
  is_active : 1 < a.extent
  stride_is : a.stride ≡ nat_abs (axis_at axes index).stride

one_further : {k : ℕ} {a : ActiveAxis} (b : Axis) {rest : List Axis} → NumberedFrom (suc k) rest a → NumberedFrom k (b ∷ rest) a
one_further b n = record { index = suc n.index; in_rank = omega (arith, n.in_rank); number_is = omega (arith, n.number_is); extent_is = n.extent_is; is_active = n.is_active; stride_is = n.stride_is }

module _ (k : ℕ) (b : Axis) (rest : List Axis) (a : ActiveAxis) where
  -- axis b as an entry
  abbrev this : ActiveAxis
  this = record { axis = k; extent = b.extent; stride = nat_abs b.stride }

  abbrev list_from : Bool → List ActiveAxis
  list_from t = if t then this ∷ active_from (suc k) rest else active_from (suc k) rest

  number-of-entry : (t : Bool) → (T t → 1 < b.extent) → (EntryOf (active_from (suc k) rest) a → NumberedFrom (suc k) rest a) → EntryOf (list_from t) a → NumberedFrom k (b ∷ rest) a
  number-of-entry true long ih w = entry-cases first (λ v. one_further b (ih v)) w
    where
      first : this ≡ a → NumberedFrom k (b ∷ rest) a
      first e =
          let number : k ≡ a.axis = ap (λ (x : ActiveAxis). x.axis) e in
          let extent : b.extent ≡ a.extent = ap (λ (x : ActiveAxis). x.extent) e in
          record { index = 0; in_rank = omega arith; number_is = omega arith; extent_is = sym extent; is_active = omega (arith, long tt); stride_is = sym (ap (λ (x : ActiveAxis). x.stride) e) }
  number-of-entry false long ih w = one_further b (ih w)

  entry-of-number : (t : Bool) → (T (not t) → b.extent ≤ 1) → (NumberedFrom (suc k) rest a → EntryOf (active_from (suc k) rest) a) → NumberedFrom k (b ∷ rest) a → EntryOf (list_from t) a
  entry-of-number t short ih n = by t n.index short n.in_rank n.number_is n.extent_is n.stride_is
    where
      further : (i : ℕ) → i < length rest → a.axis ≡ suc k + i → a.extent ≡ (axis_at rest i).extent → a.stride ≡ nat_abs (axis_at rest i).stride → EntryOf (active_from (suc k) rest) a
      further i h e f g = ih (record { index = i; in_rank = h; number_is = e; extent_is = f; is_active = n.is_active; stride_is = g })

      by : (t : Bool) (i : ℕ) → (T (not t) → b.extent ≤ 1) → i < length (b ∷ rest) → a.axis ≡ k + i → a.extent ≡ (axis_at (b ∷ rest) i).extent → a.stride ≡ nat_abs (axis_at (b ∷ rest) i).stride → EntryOf (list_from t) a
      by true zero s h e f g = let number : k ≡ a.axis = omega arith in first_entry (active_from (suc k) rest) (λ i. record { axis = number i; extent = sym f i; stride = sym g i })
      by true (suc i) s h e f g = later-entry this (further i (omega arith) (omega arith) f g)
      by false zero s h e f g = absurd (omega (arith, s tt, n.is_active))
      by false (suc i) s h e f g = further i (omega arith) (omega arith) f g

active-entries : (k : ℕ) (axes : List Axis) (a : ActiveAxis) → EntryOf (active_from k axes) a ↔ NumberedFrom k axes a
unfolding active_from
active-entries k [] a = (λ w. absurd (no-entry w), λ n. absurd (omega (arith, n.in_rank)))
active-entries k (b ∷ rest) a =
    let ih = active-entries (suc k) rest a in
    (number-of-entry k b rest a (ltb 1 b.extent) (ltb→lt 1 b.extent) ih.0, entry-of-number k b rest a (ltb 1 b.extent) (nltb→le 1 b.extent) ih.1)

pub active-listed : (axes : List Axis) (a : ActiveAxis) → EntryOf (active_from 0 axes) a ↔ ActiveAxisOf axes a
active-listed axes a = (λ w. by_number ((active-entries 0 axes a).0 w), λ w. (active-entries 0 axes a).1 (from_zero w))
  where
    by_number : NumberedFrom 0 axes a → ActiveAxisOf axes a
    by_number n =
        let e : n.index ≡ a.axis = omega (arith, n.number_is) in
        record {
          in_rank = omega (arith, n.in_rank);
          extent_is = n.extent_is ∙ ap (λ (i : ℕ). (axis_at axes i).extent) e;
          is_active = n.is_active;
          stride_is = n.stride_is ∙ ap (λ (i : ℕ). nat_abs (axis_at axes i).stride) e;
        }

    from_zero : ActiveAxisOf axes a → NumberedFrom 0 axes a
    from_zero w = record { index = a.axis; in_rank = w.in_rank; number_is = omega arith; extent_is = w.extent_is; is_active = w.is_active; stride_is = w.stride_is }
