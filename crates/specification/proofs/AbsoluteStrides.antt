-- Signed strides and absolute strides tell index vectors apart alike: with the index of each axis of negative stride counted from its other end,
-- the sum over signed strides is the sum over absolute strides less what the negative strides reach down.
use mathlib.Core.Path.{◌≡◌, refl, sym, ap, ap₂, ◌∙◌}
use mathlib.Core.List.{List, [], ◌∷◌}
use Prim.Native.Nat.{ℕ, suc, ◌+◌, ◌*◌, ◌-◌, ◌<◌}
use native.Mathlib.Omega.{arith}
use lib.IntN.{ℤ, pos, negsuc, nat_abs}
use Rattle.integer.specs.Parts.{negative_part, positive_part}
use Rattle.integer.proofs.MultipleLaws.{multiples}
use Rattle.specification.specs.Axis.{Axis, extents, offset_sum, downward}
use Rattle.specification.specs.Search.{ActiveAxis, lengths, reach}
use Rattle.specification.proofs.Positions.{IndexVector, empty, ◌and◌, Apart}
use Rattle.std.proofs.lemmas.Int.{ints}

-- all axes with their absolute strides, numbered from k on
abbrev pub absolute : ℕ → List Axis → List ActiveAxis
absolute k [] = []
absolute k (a ∷ r) = record { axis = k; extent = a.extent; stride = nat_abs a.stride } ∷ absolute (suc k) r

-- they have the same extents
pub lengths-absolute : (k : ℕ) (l : List Axis) → lengths (absolute k l) ≡ extents l
lengths-absolute k [] = refl
lengths-absolute k (a ∷ r) = ap (λ (z : List ℕ). a.extent ∷ z) (lengths-absolute (suc k) r)

-- axes with absolute strides tell their index vectors apart: vectors of one sum are equal
abbrev pub SumsApart : List ActiveAxis → Type 0
SumsApart l = (x y : List ℕ) → IndexVector (lengths l) x → IndexVector (lengths l) y → reach l x ≡ reach l y → x ≡ y

-- ---- turning indices

-- an index of an axis of extent n and stride s: from the other end if the stride is negative
abbrev turn : ℕ → ℤ → ℕ → ℕ
turn n (pos s) i = i
turn n (negsuc s) i = n - suc i

-- each index of a vector, turned by its axis
abbrev pub turned : List Axis → List ℕ → List ℕ
turned [] x = []
turned (a ∷ r) [] = []
turned (a ∷ r) (i ∷ x) = turn a.extent a.stride i ∷ turned r x

-- it is below the extent
turn_below : (n : ℕ) (s : ℤ) (i : ℕ) → i < n → turn n s i < n
turn_below n s i h = grind (arith, ints)

-- turned twice it is as before
turn-turn : (n : ℕ) (s : ℤ) (i : ℕ) → i < n → turn n s (turn n s i) ≡ i
turn-turn n s i h = grind (arith, ints)

-- a turned index vector is one
pub turned-within : (l : List Axis) {x : List ℕ} → IndexVector (extents l) x → IndexVector (extents l) (turned l x)
turned-within [] empty = empty
turned-within (a ∷ r) (◌and◌ {i = i} h b) = ◌and◌ (turn_below a.extent a.stride i h) (turned-within r b)

-- turned twice it is as before
pub turned-turned : (l : List Axis) {x : List ℕ} → IndexVector (extents l) x → turned l (turned l x) ≡ x
turned-turned [] empty = refl
turned-turned (a ∷ r) (◌and◌ {i = i} h b) = ap₂ (λ (y : ℕ) (z : List ℕ). y ∷ z) (turn-turn a.extent a.stride i h) (turned-turned r b)

-- ---- sums

-- of one axis: index × stride plus the negative span without its sign is the turned index × the absolute stride
reach-of-one : (n : ℕ) (s : ℤ) (i : ℕ) → i < n → i * positive_part s + (n - 1) * negative_part s ≡ i * negative_part s + turn n s i * nat_abs s
reach-of-one n (pos s) i h = omega arith
reach-of-one n (negsuc s) i h = let e : n - 1 ≡ i + (n - suc i) = omega arith in omega (arith, ap (λ (z : ℕ). z * suc s) e)

-- of all axes
pub offset-reach : (k : ℕ) (l : List Axis) {x : List ℕ} → IndexVector (extents l) x → positive_part (offset_sum l x) + downward l ≡ negative_part (offset_sum l x) + reach (absolute k l) (turned l x)
unfolding offset_sum reach downward
offset-reach k [] empty = omega arith
offset-reach k (a ∷ r) (◌and◌ {i = i} {is = x} h b) =
    omega (arith, multiples, reach-of-one a.extent a.stride i h, offset-reach (suc k) r b)

-- if absolute strides tell vectors apart, so do signed ones
pub apart-of-sums : (k : ℕ) (l : List Axis) → SumsApart (absolute k l) → Apart l
apart-of-sums k l f x y bx by e =
    sym (turned-turned l bx)
    ∙ ap (λ (z : List ℕ). turned l z) (f (turned l x) (turned l y) (rw (lengths-absolute k l) (turned-within l bx)) (rw (lengths-absolute k l) (turned-within l by))
    (omega (arith, offset-reach k l bx, offset-reach k l by, ap positive_part e, ap negative_part e)))
    ∙ turned-turned l by
