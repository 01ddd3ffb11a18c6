-- The normal form of axes reads like the axes: as many positions, and the same sum at each (`ReadsAlike`). If no extent is 0 it is normal:
-- no extent is 1, and no axis continues the one before it. Both by induction from the right, on what `normal_axes` does with one more axis in front.
use Rattle.std.specs.Prelude.{if◌then◌else◌}
use mathlib.Core.Path.{◌≡◌, refl, sym, ap, ◌∙◌}
use mathlib.Core.Logic.{◌≢◌}
use mathlib.Core.List.{List, [], ◌∷◌}
use mathlib.Core.Bool.{Bool, true, false, not}
use Prim.Native.Nat.{ℕ, zero, suc, ◌+◌, ◌*◌, ◌/◌, ◌%◌, ◌<◌, ◌≤◌}
use native.Mathlib.Nat.{mod-zero, mod-one, div-one, mod-add-div, mul-zero, zero-mul, mul_assoc, mul_comm, mul-le-mul, one-mul, div-div-eq-div-mul, add_comm}
use native.Mathlib.Omega.{arith}
use lib.Arith.{mod-mul}
use lib.Dec.{T}
use lib.IntN.{ℤ, ◌+ℤ◌, +ℤ_idl, +ℤ_assoc}
use Rattle.integer.specs.Multiple.{◌·◌}
use Rattle.integer.proofs.MultipleLaws.{int_eq-no, int_eq-yes, ·-add, ·-mul, ·-zero}
use Rattle.specification.specs.Axis.{Axis, extents, positions, product, index_at, offset_sum, sum_at}
use Rattle.specification.specs.Normal.{continues, both, merge_into, merge, normal_axes}
use Rattle.specification.proofs.Digits.{PositiveExtents, product-positive}
use Rattle.std.proofs.lemmas.Int.{ints}

-- ---- what one more axis in front comes to

-- b continues a: the test `continues` as a type
abbrev pub Continues : Axis → Axis → Type 0
Continues a b = b.stride ≡ a.extent · a.stride

-- a before b and others: merged with b, or put in front
merged-either : (P : List Axis → Type 0) (a b : Axis) (r : List Axis) → (Continues a b → P (both a b ∷ r)) → (¬ (Continues a b) → P (a ∷ b ∷ r)) → P (merge_into a (b ∷ r))
unfolding merge_into
merged-either P a b r f g = go (continues a b) (int_eq-yes b.stride (a.extent · a.stride)) (int_eq-no b.stride (a.extent · a.stride))
  where
    go : (t : Bool) → (T t → Continues a b) → (T (not t) → ¬ (Continues a b)) → P (if t then both a b ∷ r else a ∷ b ∷ r)
    go true y n = f (y tt)
    go false y n = g (n tt)

-- the normal form of a before others: a is dropped, or merged into their normal form
normal-either : (P : List Axis → Type 0) (a : Axis) (r : List Axis) → (a.extent ≡ 1 → P (normal_axes r)) → (a.extent ≢ 1 → P (merge_into a (normal_axes r))) → P (normal_axes (a ∷ r))
unfolding normal_axes merge
normal-either P a r f g = grind (arith, ints)

-- ---- lists that read alike

-- as many positions, and the same sum at each number
pub record ReadsAlike (l m : List Axis) : Type 0 where
  pub count : positions l ≡ positions m
  pub sums : (k : ℕ) → sum_at l k ≡ sum_at m k

-- a list reads like itself
pub alike_refl : {l : List Axis} → ReadsAlike l l
alike_refl = record { count = refl; sums = λ k. refl }

-- and like what a list that reads like it reads like
pub alike-trans : {l m n : List Axis} → ReadsAlike l m → ReadsAlike m n → ReadsAlike l n
alike-trans p q = record { count = p.count ∙ q.count; sums = λ k. p.sums k ∙ q.sums k }

-- with one more axis in front of both
pub alike-more : (a : Axis) {l m : List Axis} → ReadsAlike l m → ReadsAlike (a ∷ l) (a ∷ m)
unfolding product index_at offset_sum
alike-more a p = grind (arith, ints)

-- an axis of extent 1 dropped
pub alike-dropped : (a : Axis) (r : List Axis) → a.extent ≡ 1 → ReadsAlike r (a ∷ r)
unfolding product index_at offset_sum
alike-dropped a r e = record { count = rw e (sym (one-mul (positions r))); sums = λ k. rw (e, mod-one, div-one, ·-zero, +ℤ_idl) }

-- the lowest digit over two extents at once, by the digits over each; a remainder by 0 is the number itself, a quotient by 0 is 0
mod-of-two : (n m k : ℕ) → k % (n * m) ≡ k % n + k / n % m * n
mod-of-two zero m k = rw (zero-mul, mul-zero) (omega arith)
mod-of-two (suc n) zero k = rw (mul-zero, mod-zero k, mod-zero (k / suc n)) (omega (arith, mod-add-div k (suc n), mul_comm (suc n) (k / suc n)))
mod-of-two (suc n) (suc m) k = ap (λ (x : ℕ). k % x) (mul_comm (suc n) (suc m)) ∙ mod-mul k (omega arith) (omega arith) ∙ add_comm _ _

-- two axes of which the second continues the first, read as one
sum-of-two : (n m k : ℕ) (s t : ℤ) (u : ℤ) → t ≡ n · s → (k % (n * m)) · s +ℤ u ≡ (k % n) · s +ℤ ((k / n % m) · t +ℤ u)
sum-of-two n m k s t u e =
    ap (λ (x : ℕ). x · s +ℤ u) (mod-of-two n m k)
    ∙ ap (λ (x : ℤ). x +ℤ u) (·-add (k % n) (k / n % m * n) s ∙ ap (λ (x : ℤ). (k % n) · s +ℤ x) (sym (·-mul (k / n % m) n s) ∙ ap (λ (x : ℤ). (k / n % m) · x) (sym e)))
    ∙ +ℤ_assoc ((k % n) · s) ((k / n % m) · t) u

-- two neighbours merged
pub alike-merged : (a b : Axis) (r : List Axis) → Continues a b → ReadsAlike (both a b ∷ r) (a ∷ b ∷ r)
unfolding product index_at offset_sum
alike-merged a b r e = record {
  count = mul_assoc a.extent b.extent (positions r);
  sums = λ k. sum-of-two a.extent b.extent k a.stride b.stride (sum_at r (k / (a.extent * b.extent))) e ∙ rw div-div-eq-div-mul;
}

-- an axis merged into others
alike-into : (a : Axis) (r : List Axis) → ReadsAlike (merge_into a r) (a ∷ r)
unfolding merge_into
alike-into a [] = alike_refl
alike-into a (b ∷ r) = merged-either (λ l. ReadsAlike l (a ∷ b ∷ r)) a b r (alike-merged a b r) (λ n. alike_refl)

-- the normal form
pub normal-alike : (l : List Axis) → ReadsAlike (normal_axes l) l
unfolding normal_axes merge
normal-alike [] = alike_refl
normal-alike (a ∷ r) = normal-either (λ l. ReadsAlike l (a ∷ r)) a r
    (λ e. alike-trans (normal-alike r) (alike-dropped a r e)) (λ n. alike-trans (alike-into a (normal_axes r)) (alike-more a (normal-alike r)))

-- it has as many positions
pub positions-of-normal : (l : List Axis) → positions (normal_axes l) ≡ positions l
positions-of-normal l = (normal-alike l).count

-- ---- normal lists

-- no extent is 0
pub data AllPositive : List Axis → Type 0 where
  none : AllPositive []
  more : {a : Axis} {r : List Axis} → 0 < a.extent → AllPositive r → AllPositive (a ∷ r)

-- so is none in the list of extents
pub positive-extents : {l : List Axis} → AllPositive l → PositiveExtents (extents l)
positive-extents none = PositiveExtents.none
positive-extents (more h t) = PositiveExtents.more h (positive-extents t)

-- there is a position
pub positions-pos : {l : List Axis} → AllPositive l → 0 < positions l
positions-pos p = product-positive (positive-extents p)

-- a is not continued by the first of r
abbrev pub Apart : Axis → List Axis → Type 0
Apart a [] = Unit {0}
Apart a (b ∷ r) = ¬ (Continues a b)

-- no extent below 2, and no axis that continues the one before it
pub data Normal : List Axis → Type 0 where
  none : Normal []
  more : {a : Axis} {r : List Axis} → 2 ≤ a.extent → Apart a r → Normal r → Normal (a ∷ r)

-- so no extent is 0
pub normal-positive : {r : List Axis} → Normal r → AllPositive r
normal-positive none = none
normal-positive (more {a} h f t) = more {a = a} (omega arith) (normal-positive t)

-- a merged axis is apart from what the later of the two was apart from
both-apart : (a b : Axis) (r : List Axis) → Continues a b → Apart b r → Apart (both a b) r
both-apart a b [] p f = tt
both-apart a b (c ∷ r) p f = λ e. f (e ∙ ap (λ (x : ℕ). x · a.stride) (mul_comm a.extent b.extent) ∙ sym (·-mul b.extent a.extent a.stride) ∙ ap (λ (x : ℤ). b.extent · x) (sym p))

-- a long axis merged into a normal list
into-normal : (a : Axis) {r : List Axis} → 2 ≤ a.extent → Normal r → Normal (merge_into a r)
unfolding merge_into
into-normal a h none = more h tt none
into-normal a h (more {a = b} {r} hb f t) = merged-either Normal a b r
    (λ e. more {a = both a b} (omega (arith, mul-le-mul h hb)) (both-apart a b r e f) t) (λ n. more h n (more hb f t))

-- the normal form is normal
pub normal-is-normal : {r : List Axis} → AllPositive r → Normal (normal_axes r)
unfolding normal_axes merge
normal-is-normal none = none
normal-is-normal (more {a} {r} h t) = normal-either Normal a r (λ e. normal-is-normal t) (λ n. into-normal a (omega arith) (normal-is-normal t))
