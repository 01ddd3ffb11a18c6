-- An integer by its two parts, which `omega (arith, ints)` reads too: the laws that a proof names, and what an i64 holds.
use Rattle.std.proofs.Common.{◌≡◌, ◌⊎◌, true, ℕ, ◌+◌, ◌*◌, ◌<◌, ◌≤◌, ◌^◌, arith}
use Rattle.std.specs.Prelude.{◌*ℤ◌, ◌+ℤ◌, nat_abs, pos, ℤ}
use mir.Syntax.{w64}
use mir.Val.{SFits}
use Rattle.integer.specs.Parts.{negative_part, positive_part}
use Rattle.integer.specs.Range.{fits}
use Rattle.std.proofs.lemmas.Int.{ints}

-- A sum, with negative parts moved across; a product with a natural; and the magnitude.
pub parts_add : (x y : ℤ) → positive_part (x +ℤ y) + (negative_part x + negative_part y) ≡ (positive_part x + positive_part y) + negative_part (x +ℤ y)
parts_add x y = omega (arith, ints)

pub positive_part-scale : (x : ℤ) (n : ℕ) → positive_part (x *ℤ pos n) ≡ positive_part x * n
positive_part-scale x n = grind (arith, ints)

pub negative_part-scale : (x : ℤ) (n : ℕ) → negative_part (x *ℤ pos n) ≡ negative_part x * n
negative_part-scale x n = grind (arith, ints)

pub nat_abs-parts : (x : ℤ) → nat_abs x ≡ positive_part x + negative_part x
nat_abs-parts x = grind (arith, ints)

-- One of the two parts is 0.
pub one-part-zero : (x : ℤ) → (positive_part x ≡ 0) ⊎ (negative_part x ≡ 0)
one-part-zero x = grind (arith, ints)

-- Equality by the parts.
pub parts-ext : {x y : ℤ} → positive_part x + negative_part y ≡ positive_part y + negative_part x → x ≡ y
parts-ext e = omega (arith, ints)

-- What an i64 holds, -2^63 ≤ z < 2^63: to show it, nothing need be said of which part is 0. The test `fits` says the same.
pub parts-fit : {z : ℤ} → positive_part z < 2 ^ 63 + negative_part z → negative_part z ≤ 2 ^ 63 + positive_part z → SFits w64 z
parts-fit p q = omega (arith, ints)

pub fits-of-sfits : (z : ℤ) → SFits w64 z → fits z ≡ true
fits-of-sfits z f = grind (arith, ints)

pub sfits-of-fits : (z : ℤ) → fits z ≡ true → SFits w64 z
sfits-of-fits z e = grind (arith, ints)
