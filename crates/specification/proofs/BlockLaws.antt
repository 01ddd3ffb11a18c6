-- The block decides: two index vectors of one sum are there on the block exactly if they are on all active axes, and on these exactly if on all axes.
-- Each axis behind the block is separated from those before it, and order and axes of extent 1 do not matter.
use Rattle.std.specs.List.{list_any}
use Rattle.std.specs.Prelude.{if◌then◌else◌}
use mathlib.Core.Path.{◌≡◌, refl, sym, ap, subst, ◌∙◌}
use mathlib.Core.Bool.{Bool, true, false, not, ◌&&◌, ◌||◌}
use mathlib.Core.List.{List, [], ◌∷◌, ◌++◌, append-nil}
use Prim.Native.Nat.{ℕ, suc, ◌+◌, ◌*◌, ◌-◌, ◌<◌, ◌≤◌}
use native.Mathlib.Omega.{arith}
use lib.Dec.{T, leb, ltb, eqb, nleb→lt, ltb→lt, nltb→le}
use lib.IntN.{ℤ, pos, nat_abs}
use borrow.Author.Tests.{eqb-true, eqb-false}
use Rattle.std.specs.Ordering.{int_eq}
use Rattle.specification.specs.Tests.{sort_by}
use Rattle.specification.specs.Axis.{Axis}
use Rattle.specification.specs.Search.{ActiveAxis, lengths, reach, span_sum}
use Rattle.specification.specs.Verdict.{active_from, up_to_last, smaller, block_of, still}
use Rattle.specification.proofs.NormalAxes.{AllPositive}
use Rattle.specification.proofs.Positions.{IndexVector, empty, ◌and◌}
use Rattle.specification.proofs.AbsoluteStrides.{absolute, SumsApart}
use Rattle.specification.proofs.SeparatedAxis.{separated}
use Rattle.specification.proofs.Digits.{PositiveExtents}
use Rattle.specification.proofs.Differences.{EqualSums}
use Rattle.specification.proofs.AxisOrder.{Perm, nil, skip, swap, trans, perm-sym, apart-of-perm, Carry, carry-perm, carry-skip, carry-trans}
use Rattle.specification.proofs.Sorting.{Each, EachTwo, perm-refl, perm-each, sort-perm}
use Rattle.specification.proofs.Collisions.{pair-carry, single, single-back, still as still-pair}
use Rattle.std.proofs.lemmas.Int.{ints}

-- a pair of the rest is one of the whole
pair-cons : (a : ActiveAxis) (r : List ActiveAxis) → 0 < a.extent → EqualSums r → EqualSums (a ∷ r)
unfolding reach
pair-cons a r h p = record {
  x = 0 ∷ p.x;
  y = 0 ∷ p.y;
  bx = ◌and◌ h p.bx;
  by = ◌and◌ h p.by;
  other = λ e. p.other (cc);
  same = ap (λ (z : ℕ). 0 * a.stride + z) p.same;
}

-- ---- an axis moved behind others

middle-perm : (a : ActiveAxis) (r p : List ActiveAxis) → Perm (a ∷ (r ++ p)) (r ++ (a ∷ p))
middle-perm a [] p = perm-refl (a ∷ p)
middle-perm a (b ∷ r) p = trans swap (skip (middle-perm a r p))

-- ---- an axis of the search is active and moves

pub record Live (a : ActiveAxis) : Type 0 where
  pub long : 1 < a.extent
  pub moves : 0 < a.stride

abbrev pub Lives : List ActiveAxis → Type 0
Lives = Each Live

pub lives-pos : (l : List ActiveAxis) → Lives l → PositiveExtents (lengths l)
lives-pos [] f = PositiveExtents.none
lives-pos (a ∷ r) f = let z : 0 < a.extent = omega (arith, f.0.long) in PositiveExtents.more z (lives-pos r f.1)

pub perm-lives : {l m : List ActiveAxis} → Perm l m → Lives l → Lives m
perm-lives = perm-each Live

-- ---- up to the last axis that is not separated

pub last-each : (P : ActiveAxis → Type 0) (before : ℕ) (l : List ActiveAxis) → Each P l → Each P (up_to_last before l)
unfolding up_to_last
last-each P before [] e = e
last-each P before (a ∷ r) e = go (up_to_last (before + (a.extent - 1) * a.stride) r) (leb a.stride before) (last-each P (before + (a.extent - 1) * a.stride) r e.1)
  where
    go : (u : List ActiveAxis) (t : Bool) → Each P u → Each P (elim u [ [] ↦ if t then a ∷ [] else [] | b ∷ more ↦ a ∷ b ∷ more ])
    go [] true w = (e.0, tt)
    go [] false w = tt
    go (b ∷ more) t w = (e.0, w)

pub last-each-two : (R : ActiveAxis → ActiveAxis → Type 0) (before : ℕ) (l : List ActiveAxis) → EachTwo R l → EachTwo R (up_to_last before l)
unfolding up_to_last
last-each-two R before [] e = e
last-each-two R before (a ∷ r) e =
    let before' = before + (a.extent - 1) * a.stride in
    go (up_to_last before' r) (leb a.stride before) (last-each (R a) before' r e.0) (last-each-two R before' r e.1)
  where
    go : (u : List ActiveAxis) (t : Bool) → Each (R a) u → EachTwo R u → EachTwo R (elim u [ [] ↦ if t then a ∷ [] else [] | b ∷ more ↦ a ∷ b ∷ more ])
    go [] true w v = (tt, tt)
    go [] false w v = tt
    go (b ∷ more) t w v = (w, v)

-- l is what is left, p what was passed
last_apart : (before : ℕ) (l p : List ActiveAxis) → before ≡ span_sum p → SumsApart (up_to_last before l ++ p) → SumsApart (l ++ p)
unfolding up_to_last span_sum
last_apart before [] p e f = f
last_apart before (a ∷ r) p e f = apart-of-perm (middle-perm a r p)
    (go (up_to_last (before + (a.extent - 1) * a.stride) r) (leb a.stride before) (nleb→lt a.stride before)
    (last_apart (before + (a.extent - 1) * a.stride) r (a ∷ p) (omega arith)) f)
  where
    go : (u : List ActiveAxis) (t : Bool) → (T (not t) → before < a.stride) → (SumsApart (u ++ (a ∷ p)) → SumsApart (r ++ (a ∷ p)))
        → SumsApart ((elim u [ [] ↦ if t then a ∷ [] else [] | b ∷ more ↦ a ∷ b ∷ more ]) ++ p) → SumsApart (r ++ (a ∷ p))
    go [] true h ih f = ih f
    go [] false h ih f = let q : span_sum p < a.stride = omega (arith, h tt) in ih (separated a p q f)
    go (b ∷ more) t h ih f = ih (apart-of-perm (perm-sym (middle-perm a (b ∷ more) p)) f)

-- two vectors of one sum on the part up to the last and what was passed are two on all
last-pair : (before : ℕ) (l p : List ActiveAxis) → PositiveExtents (lengths l) → EqualSums (up_to_last before l ++ p) → EqualSums (l ++ p)
unfolding up_to_last
last-pair before [] p h f = f
last-pair before (a ∷ r) p (PositiveExtents.more h t) f = pair-carry (carry-perm (perm-sym (middle-perm a r p)))
    (go (up_to_last (before + (a.extent - 1) * a.stride) r) (leb a.stride before)
    (last-pair (before + (a.extent - 1) * a.stride) r (a ∷ p) t) f)
  where
    go : (u : List ActiveAxis) (t : Bool) → (EqualSums (u ++ (a ∷ p)) → EqualSums (r ++ (a ∷ p)))
        → EqualSums ((elim u [ [] ↦ if t then a ∷ [] else [] | b ∷ more ↦ a ∷ b ∷ more ]) ++ p) → EqualSums (r ++ (a ∷ p))
    go [] true ih f = ih f
    go [] false ih f = ih (pair-cons a p h f)
    go (b ∷ more) t ih f = ih (pair-carry (carry-perm (middle-perm a (b ∷ more) p)) f)

-- ---- the active axes

-- if there are no axes
no-axes : Carry [] []
no-axes = carry-perm nil

-- axes of extent 1 left out, vectors are carried over both ways
pub active-carry : (k : ℕ) {l : List Axis} → AllPositive l → Carry (absolute k l) (active_from k l) × Carry (active_from k l) (absolute k l)
unfolding active_from
active-carry k AllPositive.none = (no-axes, no-axes)
active-carry k (AllPositive.more {a} {r} h t) = go (ltb 1 a.extent) (nltb→le 1 a.extent) (active-carry (suc k) t)
  where
    this : ActiveAxis
    this = record { axis = k; extent = a.extent; stride = nat_abs a.stride }

    go : (x : Bool) → (T (not x) → a.extent ≤ 1) → Carry (absolute (suc k) r) (active_from (suc k) r) × Carry (active_from (suc k) r) (absolute (suc k) r)
        → Carry (this ∷ absolute (suc k) r) (if x then this ∷ active_from (suc k) r else active_from (suc k) r)
        × Carry (if x then this ∷ active_from (suc k) r else active_from (suc k) r) (this ∷ absolute (suc k) r)
    go true p c = (carry-skip c.0, carry-skip c.1)
    go false p c =
        let q : a.extent ≤ 1 = p tt in
        let e : a.extent ≡ 1 = omega arith in
        (carry-trans (single this (absolute (suc k) r) e) c.0, carry-trans c.1 (single-back this (absolute (suc k) r) e))

-- the test for stride 0, on the absolute stride
int_eq-abs : (z : ℤ) → int_eq z (pos 0) ≡ eqb (nat_abs z) 0
int_eq-abs z = grind (arith, ints)

-- the vector of zeros
zeros : {es : List ℕ} → PositiveExtents es → (x : List ℕ) × IndexVector es x
zeros PositiveExtents.none = ([], empty)
zeros (PositiveExtents.more h t) = (0 ∷ (zeros t).0, ◌and◌ h (zeros t).1)

-- an active axis has extent above 0
active-pos : (k : ℕ) (l : List Axis) → PositiveExtents (lengths (active_from k l))
unfolding active_from
active-pos k [] = PositiveExtents.none
active-pos k (a ∷ r) = go (ltb 1 a.extent) (ltb→lt 1 a.extent) (active-pos (suc k) r)
  where
    go : (x : Bool) → (T x → 1 < a.extent) → PositiveExtents (lengths (active_from (suc k) r))
        → PositiveExtents (lengths (if x then record { axis = k; extent = a.extent; stride = nat_abs a.stride } ∷ active_from (suc k) r else active_from (suc k) r))
    go true p w = let z : 0 < a.extent = omega (arith, p tt) in PositiveExtents.more z w
    go false p w = w

-- an active stride 0: two vectors of one sum
pub still-yes : (k : ℕ) (l : List Axis) → list_any still l ≡ true → EqualSums (active_from k l)
unfolding active_from
still-yes k [] e = absurd (subst T (sym e) tt)
still-yes k (a ∷ r) e = go (ltb 1 a.extent) (int_eq a.stride (pos 0)) (ltb→lt 1 a.extent) (λ q. eqb-true (nat_abs a.stride) 0 (sym (int_eq-abs a.stride) ∙ q)) e (still-yes (suc k) r)
  where
    go : (x y : Bool) → (T x → 1 < a.extent) → (y ≡ true → nat_abs a.stride ≡ 0) → ((x && y) || list_any still r) ≡ true → (list_any still r ≡ true → EqualSums (active_from (suc k) r))
        → EqualSums (if x then record { axis = k; extent = a.extent; stride = nat_abs a.stride } ∷ active_from (suc k) r else active_from (suc k) r)
    go true true p q f ih = still-pair (record { axis = k; extent = a.extent; stride = nat_abs a.stride }) (active_from (suc k) r) (zeros (active-pos (suc k) r)).1 (p tt) (q refl)
    go true false p q f ih = let h : 0 < a.extent = omega (arith, p tt) in pair-cons (record { axis = k; extent = a.extent; stride = nat_abs a.stride }) (active_from (suc k) r) h (ih f)
    go false y p q f ih = ih f

-- none: each active axis moves
pub still-no : (k : ℕ) (l : List Axis) → list_any still l ≡ false → Lives (active_from k l)
unfolding active_from
still-no k [] e = tt
still-no k (a ∷ r) e = go (ltb 1 a.extent) (int_eq a.stride (pos 0)) (ltb→lt 1 a.extent) (λ q. eqb-false (nat_abs a.stride) 0 (sym (int_eq-abs a.stride) ∙ q)) e (still-no (suc k) r)
  where
    go : (x y : Bool) → (T x → 1 < a.extent) → (y ≡ false → ¬ (nat_abs a.stride ≡ 0)) → ((x && y) || list_any still r) ≡ false → (list_any still r ≡ false → Lives (active_from (suc k) r))
        → Lives (if x then record { axis = k; extent = a.extent; stride = nat_abs a.stride } ∷ active_from (suc k) r else active_from (suc k) r)
    go true true p q f ih = absurd (subst T f tt)
    go true false p q f ih = let n : ¬ (nat_abs a.stride ≡ 0) = q refl in (record { long = p tt; moves = omega arith }, ih f)
    go false y p q f ih = ih f

-- ---- the block

-- the axes of the block are active axes
pub block-lives : (l : List Axis) → Lives (active_from 0 l) → Lives (block_of l)
unfolding block_of
block-lives l v = last-each Live _ (sort_by smaller (active_from 0 l)) (perm-lives (sort-perm smaller (active_from 0 l)) v)

-- sums that tell vectors of the block apart tell those of the active axes apart
pub block_apart : (l : List Axis) → SumsApart (block_of l) → SumsApart (active_from 0 l)
unfolding block_of span_sum
block_apart l f = apart-of-perm (sort-perm smaller (active_from 0 l)) (subst SumsApart (append-nil (sort_by smaller (active_from 0 l)))
    (last_apart 0 (sort_by smaller (active_from 0 l)) [] refl (subst SumsApart (sym (append-nil (up_to_last 0 (sort_by smaller (active_from 0 l))))) f)))

-- two vectors of one sum on the block are two on the active axes
pub block-pair : (l : List Axis) → Lives (active_from 0 l) → EqualSums (block_of l) → EqualSums (active_from 0 l)
unfolding block_of
block-pair l v p = pair-carry (carry-perm (perm-sym (sort-perm smaller (active_from 0 l)))) (subst EqualSums (append-nil (sort_by smaller (active_from 0 l)))
    (last-pair 0 (sort_by smaller (active_from 0 l)) [] (lives-pos (sort_by smaller (active_from 0 l)) (perm-lives (sort-perm smaller (active_from 0 l)) v)) (subst EqualSums (sym (append-nil (up_to_last 0 (sort_by smaller (active_from 0 l))))) p)))
