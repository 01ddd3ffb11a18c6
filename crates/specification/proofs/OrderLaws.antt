-- Index order: a number counts the nonzero strides of smaller absolute value, and counting respects inclusion.
use Rattle.std.specs.Prelude.{if◌then◌else◌, filter}
use mathlib.Core.Path.{◌≡◌, refl, sym, ◌∙◌}
use mathlib.Core.Bool.{Bool, true, false, not, ◌&&◌}
use mathlib.Core.List.{List, [], ◌∷◌, map}
use mathlib.Core.Logic.{◌≢◌, ◌↔◌}
use Prim.Native.Nat.{ℕ, zero, suc, ◌+◌, ◌<◌, ◌≤◌}
use native.Mathlib.Decide.{dec_lt}
use native.Mathlib.Omega.{arith}
use borrow.Author.Tests.{ltb-false, lt-ltb, le-ltb, eq-eqb}
use lib.Dec.{T, eqb, ltb}
use lib.IntN.{ℤ, pos, nat_abs}
use lib.ListN.{length, get_or, length-map}
use Rattle.std.specs.Ordering.{int_eq}
use Rattle.integer.proofs.MultipleLaws.{int_eq-no}
use Rattle.specification.specs.Outcome.{Check, done, refused, refuse_if, ◌>>◌}
use Rattle.specification.specs.Layout.{is_too_long}
use Rattle.specification.specs.Beside.{order_among, index_order, order_after}
use Rattle.specification.specs.BesideClaims.{OrderRefused, too_many, wrong_length, OrderClaims}
use Rattle.specification.proofs.AnswerRules.{Answers, Only, only, InOrder, sooner, later, restated, test-answers, equal-tested, then-answers, then-assoc, done-after}
use Rattle.specification.proofs.TestLaws.{those-no-more, those-fewer, those-all, those-none}
use Rattle.std.proofs.lemmas.Int.{ints}

-- the strides that the number of s counts
abbrev below : ℤ → ℤ → Bool
below s t = not (int_eq t (pos 0)) && ltb (nat_abs t) (nat_abs s)

-- integers that differ, as a test
ne-int_eq : (x y : ℤ) → x ≢ y → int_eq x y ≡ false
ne-int_eq x y n = grind (arith, ints)

-- the number of a stride that is not 0
order-of-nonzero : (strides : List ℤ) (s : ℤ) → s ≢ pos 0 → order_among strides s ≡ 1 + length (filter (below s) strides)
unfolding order_among
order-of-nonzero strides s n = rw (ne-int_eq s (pos 0) n)

-- what is below a stride is below every stride that is no smaller
below-mono : (s u : ℤ) → nat_abs s ≤ nat_abs u → (t : ℤ) → below s t ≡ true → below u t ≡ true
below-mono s u h t e = grind (arith, ints)

-- no stride is below itself
below_self : (s : ℤ) → below s s ≡ false
below_self s = grind (arith, ints)

-- numbers rise exactly with the absolute value
rises : (strides : List ℤ) (i j : ℕ) → i < length strides → j < length strides → get_or strides i (pos 0) ≢ pos 0 → get_or strides j (pos 0) ≢ pos 0
    → (order_among strides (get_or strides i (pos 0)) < order_among strides (get_or strides j (pos 0))) ↔ (nat_abs (get_or strides i (pos 0)) < nat_abs (get_or strides j (pos 0)))
rises strides i j hi hj ni nj = rw (order-of-nonzero strides s ni, order-of-nonzero strides u nj) (λ h. upward h (dec_lt (nat_abs s) (nat_abs u)), downward)
  where
    s : ℤ
    s = get_or strides i (pos 0)

    u : ℤ
    u = get_or strides j (pos 0)

    upward : 1 + length (filter (below s) strides) < 1 + length (filter (below u) strides) → Dec (nat_abs s < nat_abs u) → nat_abs s < nat_abs u
    upward h (yes l) = l
    upward h (no l) = absurd (omega (arith, those-no-more (below u) (below s) strides (below-mono u s (omega arith))))

    downward : nat_abs s < nat_abs u → 1 + length (filter (below s) strides) < 1 + length (filter (below u) strides)
    downward h = omega (arith, those-fewer (below s) (below u) (pos 0) strides i hi (below-mono s u (omega arith)) (below_self s) (rw (ne-int_eq s (pos 0) ni, lt-ltb (nat_abs s) (nat_abs u) h)))

-- a number is from 1 to the number of strides: no stride is below itself
from_one : (strides : List ℤ) (i : ℕ) → i < length strides → (1 ≤ order_among strides (get_or strides i (pos 0))) × (order_among strides (get_or strides i (pos 0)) ≤ length strides)
unfolding order_among
from_one strides i h = go (int_eq (get_or strides i (pos 0)) (pos 0))
  where
    s : ℤ
    s = get_or strides i (pos 0)

    go : (t : Bool) → (1 ≤ (if t then 1 else 1 + length (filter (below s) strides))) × ((if t then 1 else 1 + length (filter (below s) strides)) ≤ length strides)
    go true = (omega arith, omega arith)
    go false = (omega arith, omega (arith, those-fewer (below s) (λ a. true) (pos 0) strides i h (λ a e. refl) (below_self s) refl, those-all strides))

-- nothing is below the least
least_is_one : (strides : List ℤ) (i : ℕ) → i < length strides
    → ((j : ℕ) → j < length strides → get_or strides j (pos 0) ≢ pos 0 → nat_abs (get_or strides i (pos 0)) ≤ nat_abs (get_or strides j (pos 0))) → order_among strides (get_or strides i (pos 0)) ≡ 1
unfolding order_among
least_is_one strides i h least = go (int_eq s (pos 0))
  where
    s : ℤ
    s = get_or strides i (pos 0)

    none_below : (t : Bool) (u : ℤ) → (T (not t) → u ≢ pos 0) → (u ≢ pos 0 → nat_abs s ≤ nat_abs u) → (not t && ltb (nat_abs u) (nat_abs s)) ≡ false
    none_below true u n f = refl
    none_below false u n f = le-ltb (nat_abs u) (nat_abs s) (f (n tt))

    go : (t : Bool) → (if t then 1 else 1 + length (filter (below s) strides)) ≡ 1
    go true = refl
    go false = omega (arith, those-none (below s) (pos 0) strides (λ j b. none_below (int_eq (get_or strides j (pos 0)) (pos 0)) (get_or strides j (pos 0)) (int_eq-no (get_or strides j (pos 0)) (pos 0)) (least j b)))

-- an entry of a list of answers is the answer to the entry
get_d_map : {A : Type 0} (f : A → ℕ) (l : List A) (d : A) (i : ℕ) → i < length l → get_or (map f l) i 0 ≡ f (get_or l i d)
get_d_map f [] d i h = absurd (omega arith)
get_d_map f (a ∷ r) d zero h = refl
get_d_map f (a ∷ r) d (suc i) h = get_d_map f r d i (omega arith)

-- entry i of the output is the number of stride i
output : (strides : List ℤ) (before : List ℕ) → length strides ≤ 16 → length strides ≡ length before
    → (i : ℕ) → i < length strides → get_or (order_after (index_order strides (length before)) before) i 0 ≡ order_among strides (get_or strides i (pos 0))
unfolding index_order refuse_if ◌>>◌
output strides before n e i h = rw (le-ltb 16 (length strides) n, eq-eqb (length strides) (length before) e) (get_d_map (order_among strides) strides (pos 0) i h)

-- stride 0 gives 1
zero_is_one : (strides : List ℤ) → order_among strides (pos 0) ≡ 1
unfolding order_among
zero_is_one strides = refl

-- ---- refusals

-- refused 1 for too many strides, then 2 for an output of another length
order-answers : (strides : List ℤ) (room : ℕ) → Answers (refuse_if (is_too_long strides) 1 [] >> refuse_if (not (eqb (length strides) room)) 2 []) ((length strides ≤ 16) × (length strides ≡ room)) (OrderRefused strides room)
order-answers strides room = restated
    (then-answers _ _ (test-answers (is_too_long strides) 1 [] (ltb-false 16 (length strides), le-ltb 16 (length strides))) (λ h. test-answers (not (eqb (length strides) room)) 2 [] (equal-tested (length strides) room)))
    (λ w. w) (λ w. w) (λ n vs o. to o) (λ n vs o. from o)
  where
    to : {n : ℕ} {vs : List ℕ} → InOrder (length strides ≤ 16) (Only 1 [] (length strides ≤ 16)) (Only 2 [] (length strides ≡ room)) n vs → OrderRefused strides room n vs
    to (sooner (only f)) = too_many (omega arith)
    to (later h (only f)) = wrong_length h f

    from : {n : ℕ} {vs : List ℕ} → OrderRefused strides room n vs → InOrder (length strides ≤ 16) (Only 1 [] (length strides ≤ 16)) (Only 2 [] (length strides ≡ room)) n vs
    from (too_many h) = sooner (only (λ k. omega arith))
    from (wrong_length h f) = later h (only f)

-- the call is these checks, then the numbers
order-checked : (strides : List ℤ) (room : ℕ) → index_order strides room ≡ (refuse_if (is_too_long strides) 1 [] >> refuse_if (not (eqb (length strides) room)) 2 []) >> done (map (order_among strides) strides)
unfolding index_order
order-checked strides room = sym (then-assoc _ _ _)

refuses : (strides : List ℤ) (room number : ℕ) (values : List ℕ) → (index_order strides room ≡ refused number values) ↔ OrderRefused strides room number values
refuses strides room number values =
    let d = done-after (refuse_if (is_too_long strides) 1 [] >> refuse_if (not (eqb (length strides) room)) 2 []) (map (order_among strides) strides) number values in
    let a = (order-answers strides room).refuses number values in
    (λ e. a.0 (d.0 (sym (order-checked strides room) ∙ e)), λ r. order-checked strides room ∙ d.1 (a.1 r))

left : (strides : List ℤ) (before : List ℕ) (number : ℕ) (values : List ℕ) → index_order strides (length before) ≡ refused number values → order_after (index_order strides (length before)) before ≡ before
left strides before number values e = rw e

-- the output stays as long as it was
as_long : (strides : List ℤ) (before : List ℕ) → length (order_after (index_order strides (length before)) before) ≡ length before
unfolding ◌>>◌
as_long strides before = rw (order-checked strides (length before)) (go (refuse_if (is_too_long strides) 1 [] >> refuse_if (not (eqb (length strides) (length before))) 2 []) (order-answers strides (length before)))
  where
    go : (c : Check) → Answers c ((length strides ≤ 16) × (length strides ≡ length before)) (OrderRefused strides (length before)) → length (order_after (c >> done (map (order_among strides) strides)) before) ≡ length before
    go (done u) a = length-map strides (order_among strides) ∙ (a.passes.0 refl).1
    go (refused n vs) a = refl

-- all that is claimed of the index order
pub order_claims : OrderClaims
order_claims = record { zero_is_one = zero_is_one; rises = rises; from_one = from_one; least_is_one = least_is_one; output = output; as_long = as_long; refuses = refuses; left = left }
