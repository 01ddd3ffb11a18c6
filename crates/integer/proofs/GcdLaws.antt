-- Euclid's remainders end in the greatest common divisor, by std's step of them.
use Rattle.std.proofs.Common.{◌≡◌, ℕ, zero, suc, ◌%◌, ◌*◌, ◌/◌, ◌<◌, ◌≤◌, arith, refl}
use Rattle.std.proofs.lemmas.Nat.Gcd.{IsGcd-from_mod, IsGcd-from_zero, same_from_IsGcd}
use Rattle.std.specs.Int.{IsGcd, ◌∣◌}
use native.Mathlib.Nat.{div-mul_cancel, mod-lt, pos_of_dvd_of_pos}
use Rattle.integer.specs.Gcd.{GcdClaims, gcd, gcd_within}

gcd_within-is : (f a b : ℕ) → b ≤ f → IsGcd a b (gcd_within f a b)
unfolding gcd_within
gcd_within-is zero a b h = IsGcd-from_zero a b (omega arith)
gcd_within-is (suc f) a zero h = IsGcd-from_zero a zero refl
gcd_within-is (suc f) a (suc b) h = let l = mod-lt a {m = suc b} (omega arith) in IsGcd-from_mod a (suc b) _ (gcd_within-is f (suc b) (a % suc b) (omega arith))

-- The definition has the meaning that its name says.
pub gcd-is : (a b : ℕ) → IsGcd a b (gcd a b)
unfolding gcd
gcd-is a b = gcd_within-is b a b (omega arith)

pub gcd_claims : GcdClaims
gcd_claims = record { is_gcd = gcd-is }

-- The two rules by which the code computes it.
pub gcd-zero : (a b : ℕ) → b ≡ 0 → gcd a b ≡ a
gcd-zero a b e = same_from_IsGcd a b _ _ (gcd-is a b) (IsGcd-from_zero a b e)

pub gcd-step : (a b : ℕ) → gcd a b ≡ gcd b (a % b)
gcd-step a b = same_from_IsGcd a b _ _ (gcd-is a b) (IsGcd-from_mod a b _ (gcd-is b (a % b)))

pub ruleset euclid = (gcd-zero, gcd-step)

-- It divides both, and if a is not 0, it is not 0.
pub gcd-divides-left : (a b : ℕ) → gcd a b ∣ a
gcd-divides-left a b = (gcd-is a b).0

pub gcd-divides-right : (a b : ℕ) → gcd a b ∣ b
gcd-divides-right a b = (gcd-is a b).1

pub gcd-pos : (a b : ℕ) → 0 < a → 0 < gcd a b
gcd-pos a b h = pos_of_dvd_of_pos (gcd-divides-left a b) h

-- What is left of each, times the divisor, is the number itself.
pub left_back : (a b : ℕ) → a / gcd a b * gcd a b ≡ a
left_back a b = div-mul_cancel (gcd a b) {m = a} (gcd-divides-left a b)

pub right-back : (a b : ℕ) → b / gcd a b * gcd a b ≡ b
right-back a b = div-mul_cancel (gcd a b) {m = b} (gcd-divides-right a b)

factor-pos : (x g a : ℕ) → x * g ≡ a → 0 < a → 0 < x
factor-pos x g a e h = grind arith

pub left-pos : (a b : ℕ) → 0 < a → 0 < a / gcd a b
left-pos a b h = factor-pos (a / gcd a b) (gcd a b) a (left_back a b) h

pub right-pos : (a b : ℕ) → 0 < b → 0 < b / gcd a b
right-pos a b h = factor-pos (b / gcd a b) (gcd a b) b (right-back a b) h
