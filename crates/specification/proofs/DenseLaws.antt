-- Dense strides: each step is the product of the extents before it while products and extents fit (`Stepped`), and a shape that is not empty
-- is refused if one does not (`Stopped`). So position k stands at offset k, and the last product, which is the largest, is the number of positions.
use Rattle.std.specs.List.{list_any}
use Rattle.std.specs.Prelude.{if◌then◌else◌}
use mathlib.Core.Path.{◌≡◌, refl, sym, ap, ◌∙◌}
use mathlib.Core.Bool.{Bool, true, false, ◌&&◌, ◌||◌}
use mathlib.Core.List.{List, [], ◌∷◌, reverse, reverse_aux}
use mathlib.Core.Logic.{◌⊎◌, inl, inr, ◌↔◌}
use Prim.Native.Nat.{ℕ, zero, suc, ◌*◌, ◌/◌, ◌%◌, ◌<◌, ◌≤◌}
use native.Mathlib.Decide.{dec_lt}
use native.Mathlib.Nat.{mul_assoc, mul-zero, zero-mul, mul-one, one-mul, mul-pos, mul_comm, mod-add-div, le-mul_of_pos_right}
use native.Mathlib.Omega.{arith}
use borrow.Author.Tests.{leb-true, leb-false, lt-ltb, le-ltb, ltb-false, eqb-true, eqb-false}
use lib.Arith.{lt-one}
use lib.Dec.{leb, eqb}
use lib.IntN.{ℤ, pos, nat_abs}
use lib.ListN.{length, take, get_or, length-reverse}
use Rattle.integer.specs.Multiple.{◌·◌}
use Rattle.integer.specs.Range.{most_signed}
use Rattle.specification.specs.Axis.{axes_of_lists, product, index_at, offset_sum, sum_at}
use Rattle.specification.specs.Outcome.{Outcome, Check, done, refused, refuse_if, ◌>>◌, ◌>>=◌}
use Rattle.specification.specs.Layout.{is_too_long}
use Rattle.specification.specs.Beside.{next_step, running, zero_among, col_major, row_major}
use Rattle.specification.specs.BesideClaims.{DenseRefused, too_many, too_large, RunningProducts, DenseClaims}
use Rattle.specification.proofs.Digits.{PositiveExtents, none, more, product-positive, quotient-below}
use Rattle.specification.proofs.OutcomeLaws.{clash, passed, refuse-yes, refuse-no, done_inj, refused-inj}
use Rattle.specification.proofs.ReachLaws.{or-false}
use Rattle.specification.proofs.TestLaws.{true-not-false, some-reverse}
use Rattle.std.proofs.lemmas.Int.{ints}

-- the product or the extent does not fit 63 bits
abbrev Past : ℕ → ℕ → Type 0
Past step n = (most_signed < step * n) ⊎ (most_signed < n)

-- strides made step by step from `step` on; of an empty shape, such a step becomes 2^63 - 1
data Stepped (empty : Bool) : ℕ → List ℕ → List ℤ → Type 0 where
  ended : {step : ℕ} → Stepped empty step [] []
  fitting : {step n : ℕ} {rest : List ℕ} {strides : List ℤ} → step * n ≤ most_signed → n ≤ most_signed → Stepped empty (step * n) rest strides → Stepped empty step (n ∷ rest) (pos step ∷ strides)
  held : {step n : ℕ} {rest : List ℕ} {strides : List ℤ} → empty ≡ true → Past step n → Stepped empty most_signed rest strides → Stepped empty step (n ∷ rest) (pos step ∷ strides)

-- a step that does not fit is come to
data Stopped : ℕ → List ℕ → Type 0 where
  here : {step n : ℕ} {rest : List ℕ} → Past step n → Stopped step (n ∷ rest)
  further : {step n : ℕ} {rest : List ℕ} → Stopped (step * n) rest → Stopped step (n ∷ rest)

-- what the running products come to
data Ran (empty : Bool) (step : ℕ) (extents : List ℕ) : Outcome (List ℤ) → Type 0 where
  answered : {strides : List ℤ} → Stepped empty step extents strides → Ran empty step extents (done strides)
  stopped : empty ≡ false → Stopped step extents → Ran empty step extents (refused 3 [])

module _ (empty : Bool) (step n : ℕ) (rest : List ℕ) where
  behind-fitting : step * n ≤ most_signed → n ≤ most_signed → (o : Outcome (List ℤ)) → Ran empty (step * n) rest o → Ran empty step (n ∷ rest) (o >>= λ strides. done (pos step ∷ strides))
  unfolding ◌>>=◌
  behind-fitting p q _ (answered s) = answered (fitting p q s)
  behind-fitting p q _ (stopped e s) = stopped e (further s)

  behind-held : empty ≡ true → Past step n → (o : Outcome (List ℤ)) → Ran empty most_signed rest o → Ran empty step (n ∷ rest) (o >>= λ strides. done (pos step ∷ strides))
  unfolding ◌>>=◌
  behind-held e p _ (answered s) = answered (held e p s)
  behind-held e p _ (stopped f s) = absurd (true-not-false e f)

ran : (empty : Bool) (step : ℕ) (extents : List ℕ) → Ran empty step extents (running empty step extents)
unfolding running next_step ◌>>=◌
ran empty step [] = answered ended
ran empty step (n ∷ rest) =
    go (leb (step * n) most_signed) (leb n most_signed) empty refl (leb-true (step * n) most_signed) (leb-false (step * n) most_signed) (leb-true n most_signed) (leb-false n most_signed)
    (ran empty (step * n) rest) (ran empty most_signed rest)
  where
    go : (s t e : Bool) → empty ≡ e → (s ≡ true → step * n ≤ most_signed) → (s ≡ false → most_signed < step * n) → (t ≡ true → n ≤ most_signed) → (t ≡ false → most_signed < n)
        → Ran empty (step * n) rest (running empty (step * n) rest) → Ran empty most_signed rest (running empty most_signed rest)
        → Ran empty step (n ∷ rest) ((if s && t then done (step * n) else (if e then done most_signed else refused 3 [])) >>= λ next. running empty next rest >>= λ strides. done (pos step ∷ strides))
    go true true e q p np u nu r m = behind-fitting empty step n rest (p refl) (u refl) _ r
    go true false true q p np u nu r m = behind-held empty step n rest q (inr (nu refl)) _ m
    go true false false q p np u nu r m = stopped q (here (inr (nu refl)))
    go false t true q p np u nu r m = behind-held empty step n rest q (inl (np refl)) _ m
    go false t false q p np u nu r m = stopped q (here (inl (np refl)))

-- ---- the strides

stepped-length : {empty : Bool} {step : ℕ} {extents : List ℕ} {strides : List ℤ} → Stepped empty step extents strides → length strides ≡ length extents
stepped-length ended = refl
stepped-length (fitting p q s) = ap suc (stepped-length s)
stepped-length (held e p s) = ap suc (stepped-length s)

-- the first of them is the step
first-is : {empty : Bool} {step : ℕ} {extents : List ℕ} {strides : List ℤ} → Stepped empty step extents strides → 0 < length extents → get_or strides 0 (pos 0) ≡ pos step
first-is s h = grind (arith, ints)

products-from : {empty : Bool} {step : ℕ} {extents : List ℕ} {strides : List ℤ} → Stepped empty step extents strides → (i : ℕ) → i < length extents
    → ((j : ℕ) → j < i → (step * product (take (suc j) extents) ≤ most_signed) × (get_or extents j 0 ≤ most_signed)) → get_or strides i (pos 0) ≡ pos (step * product (take i extents))
unfolding product
products-from ended i h f = absurd (omega arith)
products-from (fitting {step} p q s) zero h f = ap pos (sym (mul-one step))
products-from (held {step} e p s) zero h f = ap pos (sym (mul-one step))
products-from (fitting {step} {n} {rest} p q s) (suc i) h f =
    products-from s i (omega arith) (λ j k. let w = f (suc j) (omega arith) in (rw (mul_assoc step n (product (take (suc j) rest))) w.0, w.1)) ∙ ap pos (mul_assoc step n (product (take i rest)))
products-from (held {step} {n} e (inl p) s) (suc i) h f = let w = f 0 (omega arith) in absurd (omega (arith, w.0, ap (λ (z : ℕ). step * z) (mul-one n)))
products-from (held e (inr p) s) (suc i) h f = absurd (omega (arith, (f 0 (omega arith)).1))

goes_on : {empty : Bool} {step : ℕ} {extents : List ℕ} {strides : List ℤ} → Stepped empty step extents strides → (i : ℕ) → suc i < length extents
    → nat_abs (get_or strides i (pos 0)) * get_or extents i 0 ≤ most_signed → get_or extents i 0 ≤ most_signed → get_or strides (suc i) (pos 0) ≡ get_or extents i 0 · (get_or strides i (pos 0))
unfolding ◌·◌
goes_on ended i h f g = absurd (omega arith)
goes_on (fitting {step} {n} p q s) zero h f g = first-is s (omega arith) ∙ ap pos (mul_comm step n)
goes_on (held e (inl p) s) zero h f g = absurd (omega arith)
goes_on (held e (inr p) s) zero h f g = absurd (omega arith)
goes_on (fitting p q s) (suc i) h f g = goes_on s i (omega arith) f g
goes_on (held e p s) (suc i) h f g = goes_on s i (omega arith) f g

too_far : {empty : Bool} {step : ℕ} {extents : List ℕ} {strides : List ℤ} → Stepped empty step extents strides → (i : ℕ) → suc i < length extents
    → Past (nat_abs (get_or strides i (pos 0))) (get_or extents i 0) → get_or strides (suc i) (pos 0) ≡ pos most_signed
too_far ended i h f = absurd (omega arith)
too_far (fitting p q s) zero h (inl f) = absurd (omega arith)
too_far (fitting p q s) zero h (inr f) = absurd (omega arith)
too_far (held e p s) zero h f = first-is s (omega arith)
too_far (fitting p q s) (suc i) h f = too_far s i (omega arith) f
too_far (held e p s) (suc i) h f = too_far s i (omega arith) f

-- of a shape that is not empty, position k stands at k times the first step
sum-of-steps : {step : ℕ} {extents : List ℕ} {strides : List ℤ} → Stepped false step extents strides → PositiveExtents extents → (k : ℕ) → k < product extents → sum_at (axes_of_lists extents strides) k ≡ pos (step * k)
unfolding axes_of_lists product index_at offset_sum ◌·◌
sum-of-steps (ended {step}) none k h = ap pos (sym (mul-zero step) ∙ ap (λ (z : ℕ). step * z) (sym (lt-one h)))
sum-of-steps (fitting {step} {n} {rest} p q s) (more pn t) k h = rw (sum-of-steps s t (k / n) (quotient-below k n (product rest) pn h))
    (ap pos (omega (arith, mul_assoc step n (k / n), mul_comm (k % n) step, ap (λ (z : ℕ). step * z) (mod-add-div k n))))
sum-of-steps (held e p s) t k h = absurd (true-not-false e refl)

-- ---- the last product

-- steps that fit to the last
whole-fits : {step : ℕ} {extents : List ℕ} {strides : List ℤ} → Stepped false step extents strides → step ≤ most_signed → step * product extents ≤ most_signed
unfolding product
whole-fits (ended {step}) h = rw (mul-one step) h
whole-fits (fitting {step} {n} {rest} p q s) h = rw (← mul_assoc step n (product rest)) (whole-fits s p)
whole-fits (held e p s) h = absurd (true-not-false e refl)

-- a step that does not fit, before positive extents
whole-past : {step : ℕ} {extents : List ℕ} → Stopped step extents → PositiveExtents extents → 0 < step → most_signed < step * product extents
unfolding product
whole-past (here {step} {n} {rest} p) (more q t) h = rw (← mul_assoc step n (product rest)) (past p)
  where
    past : Past step n → most_signed < step * n * product rest
    past (inl l) = omega (arith, le-mul_of_pos_right (step * n) (product-positive t))
    past (inr l) = omega (arith, le-mul_of_pos_right (step * n) (product-positive t), mul_comm n step, le-mul_of_pos_right n h)
whole-past (further {step} {n} {rest} s) (more q t) h = rw (← mul_assoc step n (product rest)) (whole-past s t (mul-pos h q))

-- ---- a shape

-- no extent is 0
no-zero-positive : (extents : List ℕ) → zero_among extents ≡ false → PositiveExtents extents
no-zero-positive [] e = none
no-zero-positive (n ∷ rest) e =
    let w = or-false (eqb n 0) (list_any (λ n. eqb n 0) rest) e in
    let z : n ≡ 0 → ⊥ = eqb-false n 0 w.0 in
    more {e = n} (omega arith) (no-zero-positive rest w.1)

-- one is: there is no position
zero-no-product : (extents : List ℕ) → zero_among extents ≡ true → product extents ≡ 0
unfolding product
zero-no-product [] e = absurd (true-not-false e refl)
zero-no-product (n ∷ rest) e = go (eqb n 0) (eqb-true n 0) e (zero-no-product rest)
  where
    go : (t : Bool) → (t ≡ true → n ≡ 0) → (t || list_any (λ n. eqb n 0) rest) ≡ true → (list_any (λ n. eqb n 0) rest ≡ true → product rest ≡ 0) → n * product rest ≡ 0
    go true f e ih = rw (f refl) (zero-mul (product rest))
    go false f e ih = rw (ih e) (mul-zero n)

-- what the call comes to once there are at most 16 extents
data Column (extents : List ℕ) : Outcome (List ℤ) → Type 0 where
  strides_of : {strides : List ℤ} → Stepped (zero_among extents) 1 extents strides → product extents ≤ most_signed → Column extents (done strides)
  over : most_signed < product extents → Column extents (refused 3 [])

column : (extents : List ℕ) (o : Outcome (List ℤ)) → Ran (zero_among extents) 1 extents o → Column extents o
column extents _ (answered s) = strides_of s (go (zero_among extents) refl)
  where
    go : (t : Bool) → zero_among extents ≡ t → product extents ≤ most_signed
    go true e = omega (arith, zero-no-product extents e)
    go false e = omega (arith, whole-fits (rw e at s) (omega arith))
column extents _ (stopped e s) = over (omega (arith, whole-past s (no-zero-positive extents e) (omega arith)))

module _ (extents : List ℕ) where
  column-case : length extents ≤ 16 → Column extents (col_major extents)
  unfolding col_major
  column-case h = rw (refuse-no 1 [] (running (zero_among extents) 1 extents) (le-ltb 16 (length extents) h)) (column extents (running (zero_among extents) 1 extents) (ran (zero_among extents) 1 extents))

  few : {strides : List ℤ} → col_major extents ≡ done strides → length extents ≤ 16
  unfolding col_major
  few q = ltb-false 16 (length extents) (passed (is_too_long extents) 1 [] q).0

  column-one : 16 < length extents → col_major extents ≡ refused 1 []
  unfolding col_major
  column-one h = refuse-yes 1 [] _ (lt-ltb 16 (length extents) h)

  column_refuses : (number : ℕ) (values : List ℕ) → (col_major extents ≡ refused number values) ↔ DenseRefused extents number values
  column_refuses number values = (λ e. to e (dec_lt 16 (length extents)), λ r. from r)
    where
      by : (o : Outcome (List ℤ)) → Column extents o → length extents ≤ 16 → o ≡ refused number values → DenseRefused extents number values
      by _ (strides_of s p) h e = absurd (clash e)
      by _ (over p) h e = let w = refused-inj e in rw (← w.0, ← w.1) (too_large h p)

      to : col_major extents ≡ refused number values → Dec (16 < length extents) → DenseRefused extents number values
      to e (yes h) = let w = refused-inj (sym (column-one h) ∙ e) in rw (← w.0, ← w.1) (too_many h)
      to e (no h) = by (col_major extents) (column-case (omega arith)) (omega arith) e

      back : (o : Outcome (List ℤ)) → Column extents o → most_signed < product extents → o ≡ refused 3 []
      back _ (strides_of s p) h = absurd (omega arith)
      back _ (over p) h = refl

      from : {number : ℕ} {values : List ℕ} → DenseRefused extents number values → col_major extents ≡ refused number values
      from (too_many h) = column-one h
      from (too_large h p) = back (col_major extents) (column-case h) p

  stepped : (strides : List ℤ) → col_major extents ≡ done strides → Stepped (zero_among extents) 1 extents strides
  stepped strides q = by (col_major extents) (column-case (few q)) q
    where
      by : (o : Outcome (List ℤ)) → Column extents o → o ≡ done strides → Stepped (zero_among extents) 1 extents strides
      by _ (strides_of s p) e = rw (← done_inj e) s
      by _ (over p) e = absurd (clash (sym e))

  by_column : (strides : List ℤ) → col_major extents ≡ done strides → RunningProducts extents strides
  by_column strides q =
      let s = stepped strides q in
      record {
        as_long = stepped-length s;
        products = λ i h f. products-from s i h (λ j k. (rw (one-mul (product (take (suc j) extents))) (f j k).0, (f j k).1)) ∙ ap pos (one-mul (product (take i extents)));
        goes_on = goes_on s;
        too_far = too_far s;
      }

  at_offset : (strides : List ℤ) (k : ℕ) → col_major extents ≡ done strides → k < product extents → sum_at (axes_of_lists extents strides) k ≡ pos k
  at_offset strides k q h = go (zero_among extents) refl (stepped strides q)
    where
      go : (t : Bool) → zero_among extents ≡ t → Stepped t 1 extents strides → sum_at (axes_of_lists extents strides) k ≡ pos k
      go true e s = absurd (omega (arith, zero-no-product extents e))
      go false e s = sum-of-steps s (no-zero-positive extents e) k h ∙ ap pos (one-mul k)

-- ---- by row

-- a rule before a chain that goes on: the chain may be joined first
bind-after : {A B : Type 0} (c : Check) (o : Outcome A) (f : A → Outcome B) → c >> (o >>= f) ≡ (c >> o) >>= f
unfolding ◌>>◌ ◌>>=◌
bind-after (done u) o f = refl
bind-after (refused n vs) o f = refl

-- the reverse shape has as many extents, and a 0 among them exactly if this one has
by_row : (extents : List ℕ) → row_major extents ≡ (col_major (reverse extents) >>= λ strides. done (reverse strides))
unfolding row_major col_major
by_row extents = rw (length-reverse extents, some-reverse (λ n. eqb n 0) extents) (bind-after (refuse_if (is_too_long extents) 1 []) _ _)

-- and the same product
product-reverse : (extents : List ℕ) → product (reverse extents) ≡ product extents
unfolding product
product-reverse extents = into extents [] ∙ mul-one (product extents)
  where
    into : (l r : List ℕ) → product (reverse_aux l r) ≡ product l * product r
    into [] r = sym (one-mul (product r))
    into (n ∷ l) r = into l (n ∷ r) ∙ sym (mul_assoc (product l) n (product r)) ∙ ap (λ (z : ℕ). z * product r) (mul_comm (product l) n)

-- what an answer is made into does not refuse
bind-refuses : {A B : Type 0} (o : Outcome A) (f : A → B) (number : ℕ) (values : List ℕ) → (o >>= (λ a. done (f a)) ≡ refused number values) ↔ (o ≡ refused number values)
unfolding ◌>>=◌
bind-refuses o f number values = grind (arith, ints)

row_refuses : (extents : List ℕ) (number : ℕ) (values : List ℕ) → (row_major extents ≡ refused number values) ↔ DenseRefused extents number values
row_refuses extents number values =
    let w = bind-refuses (col_major (reverse extents)) reverse number values in
    let v = column_refuses (reverse extents) number values in
    (λ e. to (v.0 (w.0 (sym (by_row extents) ∙ e))), λ r. by_row extents ∙ w.1 (v.1 (from r)))
  where
    to : {n : ℕ} {vs : List ℕ} → DenseRefused (reverse extents) n vs → DenseRefused extents n vs
    to (too_many h) = too_many (rw (← length-reverse extents) h)
    to (too_large h p) = too_large (rw (← length-reverse extents) h) (rw (← product-reverse extents) p)

    from : {n : ℕ} {vs : List ℕ} → DenseRefused extents n vs → DenseRefused (reverse extents) n vs
    from (too_many h) = too_many (rw (length-reverse extents) h)
    from (too_large h p) = too_large (rw (length-reverse extents) h) (rw (product-reverse extents) p)

-- all that is claimed of dense strides
pub dense_claims : DenseClaims
dense_claims = record { column_refuses = column_refuses; row_refuses = row_refuses; by_column = by_column; at_offset = at_offset; by_row = by_row }
