-- An axis whose stride is above all that the others reach changes nothing: no other indices make up for a step of it.
use mathlib.Core.Path.{◌≡◌, sym, ap, ap₂}
use mathlib.Core.List.{List, [], ◌∷◌}
use Prim.Native.Nat.{ℕ, ◌+◌, ◌*◌, ◌-◌, ◌<◌, ◌≤◌}
use native.Mathlib.Nat.{mul-le-mul_right}
use native.Mathlib.Omega.{arith}
use Rattle.specification.specs.Search.{ActiveAxis, lengths, reach, span_sum}
use Rattle.specification.proofs.Positions.{IndexVector, empty, ◌and◌}
use Rattle.specification.proofs.AbsoluteStrides.{SumsApart}

-- no sum is above the span
pub reach-span : (l : List ActiveAxis) {x : List ℕ} → IndexVector (lengths l) x → reach l x ≤ span_sum l
unfolding reach span_sum
reach-span [] empty = omega arith
reach-span (a ∷ r) (◌and◌ {i = i} h b) = let k : i ≤ a.extent - 1 = omega arith in omega (arith, mul-le-mul_right a.stride k, reach-span r b)

-- a step of the separated axis cannot be made up by the others
no_step : (a : ActiveAxis) (r : List ActiveAxis) → span_sum r < a.stride → (i j : ℕ) {x y : List ℕ} → IndexVector (lengths r) x → IndexVector (lengths r) y → i < j → i * a.stride + reach r x ≡ j * a.stride + reach r y → ⊥
no_step a r h i j bx by l e = omega (arith, mul-le-mul_right a.stride l, reach-span r bx, reach-span r by)

-- with the separated axis in front, index vectors are told apart as without it
pub separated : (a : ActiveAxis) (r : List ActiveAxis) → span_sum r < a.stride → SumsApart r → SumsApart (a ∷ r)
unfolding reach
separated a r h f _ _ (◌and◌ {i = i} {is = x} hi bx) (◌and◌ {i = j} {is = y} hj by) e =
    let p : ¬ (i < j) = λ l. no_step a r h i j bx by l e in
    let q : ¬ (j < i) = λ l. no_step a r h j i by bx l (sym e) in
    let ij : i ≡ j = omega arith in
    ap₂ (λ (u : ℕ) (v : List ℕ). u ∷ v) ij (f x y bx by (omega (arith, ap (λ (z : ℕ). z * a.stride) ij)))
