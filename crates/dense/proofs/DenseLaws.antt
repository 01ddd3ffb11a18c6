-- Running products, one step after another, from the densest axis on.
use Rattle.std.proofs.Common.{◌≡◌, refl, sym, ap, ◌∙◌, Bool, List, [], ◌∷◌, ◌++◌, reverse, append_assoc, add-one, ℕ, suc, ◌+◌, ◌-◌, ◌≤◌, ◌<◌, ℤ, pos, length, take, drop, get_or, arith}
use Rattle.std.proofs.Math.Seq.{drop-cons, drop-set-lt, get_or-set_same, lt-length-set, take-suc-set}
use Rattle.std.proofs.lemmas.List.{get_or-reverse, length-reverse}
use mathlib.Core.List.{append-nil, reverse-cons, reverse-reverse}
use native.Mathlib.Nat.{le_refl, sub_self}
use lib.ListN.{set, drop_of_length-le}
use borrow.Author.Tests.{le-ltb}
use Rattle.integer.specs.Range.{most_signed}
use Rattle.specification.specs.Outcome.{Outcome, done, refused, refuse_if, ◌>>◌, ◌>>=◌}
use Rattle.specification.specs.Beside.{next_step, running, zero_among, col_major, row_major}
use Rattle.dense.specs.declared.Major.{Major}
use Rattle.dense.specs.declared.Major.TheVariants.{Column, Row}
use Rattle.dense.specs.Dense.{axis_after, dense_by}

-- a step is at most 2^63 - 1
pub step_most : (empty : Bool) (step extent next : ℕ) → next_step empty step extent ≡ done next → next ≤ most_signed
unfolding next_step
step_most empty step extent next e = grind arith

-- ---- running products with steps that are passed

-- strides before those of an outcome
abbrev pub behind : List ℤ → Outcome (List ℤ) → Outcome (List ℤ)
behind before (done strides) = done (before ++ strides)
behind before (refused number values) = refused number values

behind-append : (xs ys : List ℤ) (o : Outcome (List ℤ)) → behind xs (behind ys o) ≡ behind (xs ++ ys) o
behind-append xs ys (done strides) = ap done (sym (append_assoc xs ys strides))
behind-append xs ys (refused number values) = refl

module _ (empty : Bool) (step extent : ℕ) (rest : List ℕ) where
  running-on : (next : ℕ) → next_step empty step extent ≡ done next → running empty step (extent ∷ rest) ≡ behind (pos step ∷ []) (running empty next rest)
  unfolding running ◌>>=◌
  running-on next e = grind arith

  running-refused : {number : ℕ} {values : List ℕ} → next_step empty step extent ≡ refused number values → running empty step (extent ∷ rest) ≡ refused number values
  unfolding running ◌>>=◌
  running-refused e = grind arith

-- ---- from the densest axis on

-- the extents
abbrev pub from_densest : Major → List ℕ → List ℕ
from_densest Column extents = extents
from_densest Row extents = reverse extents

-- the strides stored where so many axes were passed
abbrev pub stored : Major → ℕ → ℕ → List ℤ → List ℤ
stored Column rank passed strides = take passed strides
stored Row rank passed strides = reverse (take passed (drop (rank - passed) strides))

-- the extents that are left begin with that of the axis
left-cons : (major : Major) (es : List ℕ) (passed : ℕ) → passed < length es
    → drop passed (from_densest major es) ≡ get_or es (axis_after major (length es) passed) 0 ∷ drop (passed + 1) (from_densest major es)
left-cons Column es passed h = rw add-one (drop-cons es passed 0 h)
left-cons Row es passed h =
    let k : passed < length (reverse es) = omega (arith, length-reverse es) in
    rw (drop-cons (reverse es) passed 0 k, get_or-reverse es passed 0 h, add-one)

-- a stride more
stored-set : (major : Major) (rank passed : ℕ) (strides : List ℤ) (s : ℤ) → passed < rank → rank ≤ length strides
    → stored major rank (passed + 1) (set strides (axis_after major rank passed) s) ≡ stored major rank passed strides ++ (s ∷ [])
stored-set Column rank passed strides s h k = rw add-one (take-suc-set strides passed s (omega arith))
stored-set Row rank passed strides s h k =
    let i : rank - (passed + 1) ≡ rank - 1 - passed = omega arith in
    let j : suc (rank - 1 - passed) ≡ rank - passed = omega arith in
    let l : rank - 1 - passed < length strides = omega arith in
    rw (
      i,
      drop-cons (set strides (rank - 1 - passed) s) (rank - 1 - passed) s (lt-length-set strides (rank - 1 - passed) s l),
      get_or-set_same strides (rank - 1 - passed) s s l,
      drop-set-lt (suc (rank - 1 - passed)) strides (rank - 1 - passed) s (le_refl (suc (rank - 1 - passed))),
      j,
      add-one,
    )
    (reverse-cons s (take passed (drop (rank - passed) strides)))

module _ (major : Major) (empty : Bool) (es : List ℕ) (strides : List ℤ) (passed step : ℕ) {whole : Outcome (List ℤ)}
    (so_far : whole ≡ behind (stored major (length es) passed strides) (running empty step (drop passed (from_densest major es)))) where
  pub turn : (next : ℕ) → passed < length es → length es ≤ length strides → next_step empty step (get_or es (axis_after major (length es) passed) 0) ≡ done next
      → whole ≡ behind (stored major (length es) (passed + 1) (set strides (axis_after major (length es) passed) (pos step))) (running empty next (drop (passed + 1) (from_densest major es)))
  turn next h k e =
      so_far ∙ rw (left-cons major es passed h, running-on empty step _ _ next e, stored-set major (length es) passed strides (pos step) h k)
      (behind-append (stored major (length es) passed strides) (pos step ∷ []) _)

  pub stop : {number : ℕ} {values : List ℕ} → passed < length es → next_step empty step (get_or es (axis_after major (length es) passed) 0) ≡ refused number values → whole ≡ refused number values
  stop h e = so_far ∙ rw (left-cons major es passed h, running-refused empty step _ _ e)

-- ---- the calls

module _ (es : List ℕ) where
  pub many : (major : Major) → 16 < length es → dense_by major es ≡ refused 1 []
  unfolding col_major row_major refuse_if ◌>>◌
  many Column h = grind arith
  many Row h = grind arith

  pub refusal : (major : Major) {number : ℕ} {values : List ℕ} → length es ≤ 16 → running (zero_among es) 1 (from_densest major es) ≡ refused number values → dense_by major es ≡ refused number values
  unfolding col_major row_major refuse_if ◌>>◌ ◌>>=◌
  refusal Column h e = grind arith
  refusal Row h e = grind arith

  pub answered : (major : Major) (strides : List ℤ) (passed step : ℕ) → length es ≤ 16 → passed ≡ length es
      → running (zero_among es) 1 (from_densest major es) ≡ behind (stored major (length es) passed strides) (running (zero_among es) step (drop passed (from_densest major es)))
      → dense_by major es ≡ done (take (length es) strides)
  unfolding col_major row_major running refuse_if ◌>>◌ ◌>>=◌
  answered Column strides passed step h p e = rw (le-ltb 16 (length es) h, e, p, drop_of_length-le es (le_refl (length es))) (ap done (append-nil _))
  answered Row strides passed step h p e =
      let all : length (reverse es) ≤ length es = omega (arith, length-reverse es) in
      rw (le-ltb 16 (length es) h, e, p, drop_of_length-le (reverse es) all, sub_self, append-nil (reverse (take (length es) strides))) (ap done (reverse-reverse _))
