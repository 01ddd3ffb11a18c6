-- Axes taken into a class one after another: the least extent, the sum of strides and its refusal 3; and the refusals of all classes.
use mathlib.Core.Path.{◌≡◌, refl, sym, ap, ◌∙◌}
use mathlib.Core.Bool.{Bool, true, false, not}
use mathlib.Core.List.{List, [], ◌∷◌, ◌++◌}
use mathlib.Core.Logic.{◌⊎◌, inl}
use Prim.Native.Nat.{ℕ, zero, suc, ◌+◌, ◌<◌, min}
use native.Mathlib.Omega.{arith}
use lib.IntN.{ℤ, pos, ◌+ℤ◌}
use lib.ListN.{length}
use Rattle.integer.specs.Range.{fits}
use Rattle.specification.specs.Axis.{Axis}
use Rattle.specification.specs.Layout.{LayoutModel}
use Rattle.specification.specs.Outcome.{Check, refused, pass, refuse_if, ◌>>◌}
use Rattle.specification.specs.Views.{least_extent, stride_sum, stride_fault, members, sum_faults}
use Rattle.view.specs.Ties.{rooted_at, fused_fault}
use Rattle.view.proofs.ChainLaws.{then-pass, then-assoc}
use Rattle.view.proofs.RangeLaws.{passing, passing-zero, passing-yes, passing-no}
use Rattle.std.proofs.lemmas.Int.{ints}

-- ---- one axis more

pub least-last : (axes : List Axis) (a : Axis) → 0 < length axes → least_extent (axes ++ (a ∷ [])) ≡ min (least_extent axes) a.extent
unfolding least_extent
least-last [] a h = absurd (omega arith)
least-last (b ∷ []) a h = refl
least-last (b ∷ c ∷ axes) a h = rw (least-last (c ∷ axes) a (omega arith)) (omega arith)

pub sum-last : (z : ℤ) (axes : List Axis) (a : Axis) → stride_sum z (axes ++ (a ∷ [])) ≡ stride_sum z axes +ℤ a.stride
unfolding stride_sum
sum-last z [] a = refl
sum-last z (b ∷ axes) a = sum-last (z +ℤ b.stride) axes a

-- the refusal at the last of them
abbrev over_at : ℤ → Check
over_at sum = refuse_if (not (fits sum)) 3 []

fault-last : (z : ℤ) (axes : List Axis) (a : Axis) → stride_fault z (axes ++ (a ∷ [])) ≡ (stride_fault z axes >> over_at (stride_sum z axes +ℤ a.stride))
unfolding stride_fault stride_sum ◌>>◌
fault-last z [] a = then-pass (over_at (z +ℤ a.stride))
fault-last z (b ∷ axes) a =
    ap (λ (c : Check). over_at (z +ℤ b.stride) >> c) (fault-last (z +ℤ b.stride) axes a)
    ∙ sym (then-assoc (over_at (z +ℤ b.stride)) (stride_fault (z +ℤ b.stride) axes) (over_at (stride_sum (z +ℤ b.stride) axes +ℤ a.stride)))

module _ (z : ℤ) (axes : List Axis) (a : Axis) where
  pub fault-fits : stride_fault z axes ≡ pass → fits (stride_sum z axes +ℤ a.stride) ≡ true → stride_fault z (axes ++ (a ∷ [])) ≡ pass
  unfolding refuse_if ◌>>◌
  fault-fits e f = fault-last z axes a ∙ rw (e, f)

  pub fault-over : stride_fault z axes ≡ pass → fits (stride_sum z axes +ℤ a.stride) ≡ false → stride_fault z (axes ++ (a ∷ [])) ≡ refused 3 []
  unfolding refuse_if ◌>>◌
  fault-over e f = fault-last z axes a ∙ rw (e, f)

  -- once refused, refused with more axes
  pub over-stays : stride_fault z axes ≡ refused 3 [] → stride_fault z (axes ++ (a ∷ [])) ≡ refused 3 []
  unfolding ◌>>◌
  over-stays e = fault-last z axes a ∙ rw e

-- ---- all classes: each is refused 3 or not at all, so it is one in which order they are looked at

abbrev Three : Check → Type 0
Three c = (c ≡ pass) ⊎ (c ≡ refused 3 [])

three-if : (t : Bool) → Three (refuse_if t 3 [])
unfolding refuse_if
three-if t = grind (arith, ints)

three-then : {a b : Check} → Three a → Three b → Three (a >> b)
unfolding ◌>>◌
three-then h f = grind (arith, ints)

three-stride : (z : ℤ) (axes : List Axis) → Three (stride_fault z axes)
unfolding stride_fault
three-stride z [] = inl refl
three-stride z (a ∷ axes) = three-then (three-if (not (fits (z +ℤ a.stride)))) (three-stride (z +ℤ a.stride) axes)

module _ (axes : List Axis) (roots : List ℕ) where
  abbrev class_fault : ℕ → Check
  class_fault a = stride_fault (pos 0) (rooted_at axes roots a)

  three-sums : (ks : List ℕ) → Three (fused_fault axes roots ks)
  unfolding fused_fault
  three-sums [] = inl refl
  three-sums (k ∷ ks) = three-then (three-stride (pos 0) (rooted_at axes roots k)) (three-sums ks)

  sums-last : (ks : List ℕ) (k : ℕ) → fused_fault axes roots (ks ++ (k ∷ [])) ≡ (fused_fault axes roots ks >> class_fault k)
  unfolding fused_fault ◌>>◌
  sums-last [] k = then-pass (class_fault k)
  sums-last (j ∷ ks) k = ap (λ (c : Check). class_fault j >> c) (sums-last ks k) ∙ sym (then-assoc (class_fault j) (fused_fault axes roots ks) (class_fault k))

  pub sums-pass : (test : ℕ → Bool) (n : ℕ) → ((k : ℕ) → k < n → test k ≡ true → class_fault k ≡ pass) → fused_fault axes roots (passing test n) ≡ pass
  unfolding fused_fault ◌>>◌
  sums-pass test zero each = rw (passing-zero test)
  sums-pass test (suc n) each =
      let e : suc n ≡ n + 1 = omega arith in
      let ih = sums-pass test n (λ k h. each k (omega arith)) in
      rw e (grind (arith, ints, passing-yes test n, passing-no test n, sums-last (passing test n) n, each n))

  pub sums-refused : (test : ℕ → Bool) (n k : ℕ) → k < n → test k ≡ true → class_fault k ≡ refused 3 [] → fused_fault axes roots (passing test n) ≡ refused 3 []
  unfolding ◌>>◌
  sums-refused test zero k h e f = absurd (omega arith)
  sums-refused test (suc n) k h e f =
      let q : suc n ≡ n + 1 = omega arith in
      let ih : k < n → fused_fault axes roots (passing test n) ≡ refused 3 [] = λ r. sums-refused test n k r e f in
      rw q (grind (arith, ints, passing-yes test n, passing-no test n, sums-last (passing test n) n, three-sums (passing test n)))

-- ---- the refusals by pairs are those by roots, where the classes are

module _ (l : LayoutModel) (pairs : List (ℕ × ℕ)) (roots : List ℕ) where
  faults-last : (ks : List ℕ) (k : ℕ) → sum_faults l pairs (ks ++ (k ∷ [])) ≡ (sum_faults l pairs ks >> stride_fault (pos 0) (members l pairs k))
  unfolding sum_faults ◌>>◌
  faults-last [] k = then-pass (stride_fault (pos 0) (members l pairs k))
  faults-last (j ∷ ks) k =
      let c = λ (a : ℕ). stride_fault (pos 0) (members l pairs a) in
      ap (λ (f : Check). c j >> f) (faults-last ks k) ∙ sym (then-assoc (c j) (sum_faults l pairs ks) (c k))

  pub faults-same : (test : ℕ → Bool) (n : ℕ) → ((k : ℕ) → k < n → test k ≡ true → members l pairs k ≡ rooted_at l.axes roots k)
      → sum_faults l pairs (passing test n) ≡ fused_fault l.axes roots (passing test n)
  unfolding sum_faults fused_fault
  faults-same test zero same = rw (passing-zero test)
  faults-same test (suc n) same =
      let e : suc n ≡ n + 1 = omega arith in
      let ih = faults-same test n (λ k h. same k (omega arith)) in
      rw e (grind (arith, ints, passing-yes test n, passing-no test n, faults-last (passing test n) n, sums-last l.axes roots (passing test n) n, same n))
