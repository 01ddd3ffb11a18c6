-- Two axes: by the rule for them they collide exactly if two index vectors have one sum, and exactly if a difference that is not zero sums to 0.
use mathlib.Core.Path.{◌≡◌, sym, ap, subst}
use mathlib.Core.Bool.{Bool, true, false, not, ◌||◌}
use mathlib.Core.Logic.{◌≢◌}
use mathlib.Core.List.{List, [], ◌∷◌}
use Prim.Native.Nat.{ℕ, ◌+◌, ◌*◌, ◌/◌, ◌<◌}
use native.Mathlib.Omega.{arith}
use lib.Dec.{T, leb, leb→le, nleb→lt}
use lib.IntN.{ℤ, pos, nat_abs, ◌-ℤ◌}
use Rattle.integer.specs.Gcd.{gcd}
use Rattle.integer.specs.Parts.{positive_part, negative_part}
use Rattle.integer.proofs.Meeting.{Meet, meet-if, meet-only-if}
use Rattle.integer.proofs.PartLaws.{nat_abs-parts}
use Rattle.integer.proofs.SignedEquation.{shifted}
use Rattle.specification.specs.Search.{ActiveAxis, lengths, reach, two_distinct}
use Rattle.specification.specs.CountClaims.{TwoCollide}
use Rattle.specification.proofs.Positions.{IndexVector, empty, ◌and◌}
use Rattle.specification.proofs.Differences.{EqualSums}
use Rattle.std.proofs.lemmas.Int.{ints}

-- the two vectors that `Meet` names
abbrev Meeting : ActiveAxis → ActiveAxis → Type 0
Meeting a b = Meet a.stride a.extent b.stride b.extent

-- ---- two index vectors of one sum

meet-pair : (a b : ActiveAxis) → Meeting a b → EqualSums (a ∷ b ∷ [])
unfolding reach
meet-pair a b m = record {
  x = m.i₁ ∷ m.i₂ ∷ [];
  y = m.j₁ ∷ m.j₂ ∷ [];
  bx = ◌and◌ m.i₁_below (◌and◌ m.i₂_below empty);
  by = ◌and◌ m.j₁_below (◌and◌ m.j₂_below empty);
  other = λ e. m.other (cc, cc);
  same = omega (arith, m.same);
}

pair-meet : (a b : ActiveAxis) → EqualSums (a ∷ b ∷ []) → Meeting a b
unfolding reach
pair-meet a b p = go p.x p.y p.bx p.by p.other p.same
  where
    go : (x y : List ℕ) → IndexVector (lengths (a ∷ b ∷ [])) x → IndexVector (lengths (a ∷ b ∷ [])) y → x ≢ y → reach (a ∷ b ∷ []) x ≡ reach (a ∷ b ∷ []) y → Meeting a b
    go _ _ (◌and◌ {i = i₁} h₁ (◌and◌ {i = i₂} h₂ empty)) (◌and◌ {i = j₁} k₁ (◌and◌ {i = j₂} k₂ empty)) ne e =
        record {
          i₁ = i₁;
          i₂ = i₂;
          j₁ = j₁;
          j₂ = j₂;
          i₁_below = h₁;
          i₂_below = h₂;
          j₁_below = k₁;
          j₂_below = k₂;
          other = λ w. ne (λ i. w.0 i ∷ w.1 i ∷ []);
          same = omega arith;
        }

-- ---- a difference that sums to 0

below_both : (z : ℤ) (i j d : ℕ) → positive_part z + j ≡ i + negative_part z → i < d → j < d → nat_abs z < d
below_both z i j d e h k = grind (arith, ints)

no_difference : (i j : ℕ) → pos i -ℤ pos j ≡ pos 0 → i ≡ j
no_difference i j e = omega (arith, ints)

no-parts : (z : ℤ) → positive_part z ≡ negative_part z → z ≡ pos 0
no-parts z e = omega (arith, ints)

meet-collide : (a b : ActiveAxis) → Meeting a b → TwoCollide a b
meet-collide a b m = record {
  x = pos m.i₁ -ℤ pos m.j₁;
  y = pos m.i₂ -ℤ pos m.j₂;
  x_below = below_both (pos m.i₁ -ℤ pos m.j₁) m.i₁ m.j₁ a.extent (shifted m.i₁ m.j₁) m.i₁_below m.j₁_below;
  y_below = below_both (pos m.i₂ -ℤ pos m.j₂) m.i₂ m.j₂ b.extent (shifted m.i₂ m.j₂) m.i₂_below m.j₂_below;
  not_both = λ w. m.other (no_difference m.i₁ m.j₁ w.0, no_difference m.i₂ m.j₂ w.1);
  to_zero = omega (arith, ints, m.same, ap (λ (k : ℕ). k * a.stride) (shifted m.i₁ m.j₁), ap (λ (k : ℕ). k * b.stride) (shifted m.i₂ m.j₂));
}

collide-meet : (a b : ActiveAxis) → TwoCollide a b → Meeting a b
collide-meet a b w = record {
  i₁ = positive_part w.x;
  i₂ = positive_part w.y;
  j₁ = negative_part w.x;
  j₂ = negative_part w.y;
  i₁_below = omega (arith, w.x_below, nat_abs-parts w.x);
  i₂_below = omega (arith, w.y_below, nat_abs-parts w.y);
  j₁_below = omega (arith, w.x_below, nat_abs-parts w.x);
  j₂_below = omega (arith, w.y_below, nat_abs-parts w.y);
  other = λ e. w.not_both (no-parts w.x e.0, no-parts w.y e.1);
  same = omega (arith, ints, w.to_zero);
}

-- ---- the rule

module _ (a b : ActiveAxis) (ha : 0 < a.stride) (hb : 0 < b.stride) where
  rule-apart : two_distinct a b ≡ true → ¬ (Meeting a b)
  unfolding two_distinct
  rule-apart e m =
      let w = meet-only-if a.stride b.stride ha hb a.extent b.extent m in
      go (leb a.extent (b.stride / gcd a.stride b.stride)) (leb b.extent (a.stride / gcd a.stride b.stride))
      (λ t. omega (arith, leb→le a.extent (b.stride / gcd a.stride b.stride) t, w.0)) (λ t. omega (arith, leb→le b.extent (a.stride / gcd a.stride b.stride) t, w.1)) e
    where
      go : (x y : Bool) → (T x → ⊥) → (T y → ⊥) → (x || y) ≡ true → ⊥
      go true y f g e = f tt
      go false true f g e = g tt
      go false false f g e = subst T (sym e) tt

  rule-meet : two_distinct a b ≡ false → Meeting a b
  unfolding two_distinct
  rule-meet e = go (leb a.extent (b.stride / gcd a.stride b.stride)) (leb b.extent (a.stride / gcd a.stride b.stride))
      (nleb→lt a.extent (b.stride / gcd a.stride b.stride)) (nleb→lt b.extent (a.stride / gcd a.stride b.stride)) e
    where
      go : (x y : Bool) → (T (not x) → b.stride / gcd a.stride b.stride < a.extent) → (T (not y) → a.stride / gcd a.stride b.stride < b.extent) → (x || y) ≡ false → Meeting a b
      go true y f g e = absurd (subst T e tt)
      go false true f g e = absurd (subst T e tt)
      go false false f g e = meet-if a.stride b.stride ha hb a.extent b.extent (f tt) (g tt)

  pub no-pair-of-two : two_distinct a b ≡ true → ¬ (EqualSums (a ∷ b ∷ []))
  no-pair-of-two e p = rule-apart e (pair-meet a b p)

  pub pair-of-two : two_distinct a b ≡ false → EqualSums (a ∷ b ∷ [])
  pair-of-two e = meet-pair a b (rule-meet e)

  pub no-collision-of-two : two_distinct a b ≡ true → ¬ (TwoCollide a b)
  no-collision-of-two e w = rule-apart e (collide-meet a b w)

  pub collision-of-two : two_distinct a b ≡ false → TwoCollide a b
  collision-of-two e = meet-collide a b (rule-meet e)
