-- That the two questions of search and enumeration can be decided. The types of `completes?` and `same_sum?` say what is decided; the rest need not be read.
-- `completes?` goes by a closed form if both strides are above 0, so it computes at numbers of any size.
-- RULES, "The verdict: search", "The verdict: enumeration".
use Rattle.std.specs.Prelude.{Bool, true, false, not, List, ◌⊎◌, ◌≡◌, refl, ℕ, ◌+◌, ◌-◌, ◌*◌, ◌<◌, ◌≤◌, T, nat_lt, ℤ, pos, negsuc, ◌-ℤ◌}
use Rattle.std.proofs.Common.{inl, inr, arith, ltb→lt, nltb→le}
use Rattle.std.proofs.Math.Decide.{ℕ_discrete}
use Rattle.integer.specs.Equation.{Solution}
use Rattle.integer.proofs.BoundedEquation.{solution?}
use Rattle.integer.proofs.Decide.{find}
use Rattle.integer.proofs.SignedEquation.{nat_abs-of-shifted, shifted, signed-of-solution, solution-of-signed, no-signed-above}
use Rattle.specification.specs.Axis.{index_at}
use Rattle.specification.specs.Search.{ActiveAxis, lengths, reach, total, Completes, SameSum}

module _ (a b : ActiveAxis) (sum : ℤ) where
  -- what u × stride + v × stride has to be, for u = x + extent - 1 and v likewise
  abbrev pub goal : ℤ
  goal = pos ((a.extent - 1) * a.stride + (b.extent - 1) * b.stride) -ℤ sum

  pub by_equation : (z : ℤ) → goal ≡ z → 0 < a.extent → 0 < b.extent
      → ((c : ℕ) → Dec (Solution a.stride b.stride (2 * (a.extent - 1)) (2 * (b.extent - 1)) c)) → Dec (Completes a b sum)
  by_equation (pos c) e ha hb d = go (d c)
    where
      go : Dec (Solution a.stride b.stride (2 * (a.extent - 1)) (2 * (b.extent - 1)) c) → Dec (Completes a b sum)
      go (yes w) = yes (record {
        x = pos w.u -ℤ pos (a.extent - 1);
        y = pos w.v -ℤ pos (b.extent - 1);
        x_below = omega (arith, nat_abs-of-shifted (pos w.u -ℤ pos (a.extent - 1)) w.u (a.extent - 1) (shifted w.u (a.extent - 1)) w.u_within);
        y_below = omega (arith, nat_abs-of-shifted (pos w.v -ℤ pos (b.extent - 1)) w.v (b.extent - 1) (shifted w.v (b.extent - 1)) w.v_within);
        to_zero = signed-of-solution a.stride b.stride (a.extent - 1) (b.extent - 1) sum c w.u w.v e w.sum;
      })
      go (no f) = no (λ w. f (solution-of-signed a.stride b.stride (a.extent - 1) (b.extent - 1) sum c w.x w.y e (omega (arith, w.x_below)) (omega (arith, w.y_below)) w.to_zero))
  by_equation (negsuc c) e ha hb d = no (λ w. no-signed-above a.stride b.stride (a.extent - 1) (b.extent - 1) sum c w.x w.y e (omega (arith, w.x_below)) (omega (arith, w.y_below)) w.to_zero)

  pub by_extents : (t u : Bool) → (T t → 0 < a.extent) → (T (not t) → a.extent ≤ 0) → (T u → 0 < b.extent) → (T (not u) → b.extent ≤ 0) → Dec (Completes a b sum)
  by_extents true true p np q nq = by_equation goal refl (p tt) (q tt) (λ c. solution? a.stride b.stride (2 * (a.extent - 1)) (2 * (b.extent - 1)) c)
  by_extents true false p np q nq = no (λ w. omega (arith, nq tt, w.y_below))
  by_extents false u p np q nq = no (λ w. omega (arith, np tt, w.x_below))

-- whether some difference of the two completes the sum to 0
unfoldable pub completes? : (a b : ActiveAxis) (sum : ℤ) → Dec (Completes a b sum)
unfolding by_extents by_equation
completes? a b sum = by_extents a b sum (nat_lt 0 a.extent) (nat_lt 0 b.extent) (ltb→lt 0 a.extent) (nltb→le 0 a.extent) (ltb→lt 0 b.extent) (nltb→le 0 b.extent)

-- whether two positions of the block have one sum
pub same_sum? : (block : List ActiveAxis) → Dec (SameSum block)
same_sum? block = whole (find (λ j. Met j) (λ j. met? j) (total block))
  where
    f : ℕ → ℕ
    f k = reach block (index_at (lengths block) k)

    Met : ℕ → Type 0
    Met j = (i : ℕ) × (i < j) × (f i ≡ f j)

    met? : (j : ℕ) → Dec (Met j)
    met? j = go (find (λ i. f i ≡ f j) (λ i. ℕ_discrete (f i) (f j)) j)
      where
        go : ((i : ℕ) × (i < j) × (f i ≡ f j)) ⊎ ((i : ℕ) → i < j → ¬ (f i ≡ f j)) → Dec (Met j)
        go (inl w) = yes w
        go (inr n) = no (λ w. n w.0 w.1 w.2)

    whole : ((j : ℕ) × (j < total block) × Met j) ⊎ ((j : ℕ) → j < total block → ¬ (Met j)) → Dec (SameSum block)
    whole (inl w) = yes (record { one = w.2.0; other = w.0; before = w.2.1; within = w.1; same = w.2.2 })
    whole (inr n) = no (λ s. n s.other s.within (s.one, s.before, s.same))
