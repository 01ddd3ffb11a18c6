-- The search does not ask which of the two set apart comes first.
use mathlib.Core.Path.{◌≡◌, refl, ap, ◌∙◌}
use mathlib.Core.List.{List}
use Prim.Native.Nat.{ℕ, ◌+◌}
use mathlib.Core.Logic.{◌⊎◌}
use native.Mathlib.Omega.{arith}
use Rattle.std.proofs.lemmas.Int.{ints}
use lib.IntN.{ℤ, pos, ◌+ℤ◌, ◌*ℤ◌, +ℤ_comm}
use Rattle.specification.specs.Tests.{is_yes}
use Rattle.specification.specs.Search.{ActiveAxis, half, difference_sum, difference_at, Completes}
use Rattle.specification.specs.Decided.{completes?}
use Rattle.specification.specs.Verdict.{hit}
use Rattle.walk.specs.declared.two_axes.TwoAxes.{TwoAxes}
use Rattle.search.specs.SetUp.{IsSetFor}

-- two decisions of what comes to the same
decided-same : {P Q : Type 0} (d : Dec P) (e : Dec Q) → (P → Q) → (Q → P) → is_yes d ≡ is_yes e
decided-same (yes p) (yes q) f g = refl
decided-same (yes p) (no q) f g = absurd (q (f p))
decided-same (no p) (yes q) f g = absurd (p (g q))
decided-same (no p) (no q) f g = refl

completes-turned : (a b : ActiveAxis) (z : ℤ) → Completes a b z → Completes b a z
completes-turned a b z w = record {
  x = w.y;
  y = w.x;
  x_below = w.y_below;
  y_below = w.x_below;
  to_zero = ap (λ (s : ℤ). s +ℤ z) (+ℤ_comm (w.y *ℤ pos b.stride) (w.x *ℤ pos a.stride)) ∙ w.to_zero;
}

hit-turned : (a b : ActiveAxis) (l : List ActiveAxis) (c : ℕ) → hit b a l c ≡ hit a b l c
unfolding hit
hit-turned a b l c =
    let z : ℤ = difference_sum l (difference_at l (half l + c)) in
    decided-same (completes? b a z) (completes? a b z) (completes-turned b a z) (completes-turned a b z)

-- so the walk's test is that of a and b, whichever is solved for
pub walks : (a b : ActiveAxis) (t : TwoAxes) → IsSetFor a b t ⊎ IsSetFor b a t → hit t.first t.second ≡ hit a b
walks a b t s = grind (arith, ints, hit-turned)
