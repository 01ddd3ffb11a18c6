-- Laws of a natural times an integer, and of the test for equal integers.
use Rattle.std.proofs.Common.{◌≡◌, ◌≢◌, T, not, ℕ, ◌+◌, ◌*◌, ap, arith}
use Rattle.std.specs.Prelude.{◌+ℤ◌, pos, ℤ}
use Rattle.integer.specs.Multiple.{◌·◌}
use Rattle.std.specs.Ordering.{int_eq}
use Rattle.integer.specs.Parts.{negative_part, positive_part}
use Rattle.std.proofs.lemmas.Int.{ints}

-- A multiple scales both parts.
pub positive_part-· : (k : ℕ) (s : ℤ) → positive_part (k · s) ≡ k * positive_part s
unfolding ◌·◌
positive_part-· k s = grind (arith, ints)

pub negative_part-· : (k : ℕ) (s : ℤ) → negative_part (k · s) ≡ k * negative_part s
unfolding ◌·◌
negative_part-· k s = grind (arith, ints)

pub ruleset multiples = (ints, positive_part-·, negative_part-·)

-- Multiples add, multiply and distribute.
pub ·-zero : (s : ℤ) → 0 · s ≡ pos 0
·-zero s = omega (arith, multiples)

pub ·-one : (s : ℤ) → 1 · s ≡ s
·-one s = omega (arith, multiples)

pub ·-mul : (q n : ℕ) (s : ℤ) → q · (n · s) ≡ (q * n) · s
·-mul q n s = omega (arith, multiples, ap (λ (z : ℕ). q * z) (positive_part-· n s), ap (λ (z : ℕ). q * z) (negative_part-· n s))

pub ·-add : (a b : ℕ) (s : ℤ) → (a + b) · s ≡ a · s +ℤ b · s
·-add a b s = omega (arith, multiples)

-- The test for equal integers, if it holds and if it does not.
pub int_eq-yes : (x y : ℤ) → T (int_eq x y) → x ≡ y
int_eq-yes x y t = grind (arith, ints)

pub int_eq-no : (x y : ℤ) → T (not (int_eq x y)) → x ≢ y
int_eq-no x y t e = grind (arith, ints)
