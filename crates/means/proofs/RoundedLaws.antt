-- The quotient is within half of the exact one, and at a half it lies farther from zero.
use Rattle.std.proofs.Common.{◌≡◌, ℕ, suc, ◌+◌, ◌*◌, ◌/◌, ◌%◌, ◌<◌, ◌≤◌, ℤ, pos, negsuc, ◌-ℤ◌, neg_ℤ, nat_abs, ap, mod-lt, div-add-mod', arith}
use Rattle.integer.specs.Multiple.{◌·◌}
use Rattle.integer.specs.Parts.{positive_part, negative_part}
use Rattle.means.specs.Rounded.{rounded}
use Rattle.integer.proofs.MultipleLaws.{multiples}
use Rattle.std.proofs.lemmas.Int.{ints}

-- what is left of 2 m + n by 2 n: q times 2 n, and less than 2 n more
module _ (m n : ℕ) (h : 0 < n) where
  abbrev q : ℕ
  q = (2 * m + n) / (2 * n)

  abbrev left : ℕ
  left = (2 * m + n) % (2 * n)

  whole : 2 * (n * q) + left ≡ 2 * m + n
  whole = omega (arith, div-add-mod' (2 * m + n) (2 * n))

  below : left < 2 * n
  below = mod-lt (2 * m + n) (omega arith)

-- the product with what is negated
turned : (n a : ℕ) → n · neg_ℤ (pos a) ≡ neg_ℤ (pos (n * a))
turned n a = omega (arith, multiples, ap (λ (x : ℕ). n * x) (none a), ap (λ (x : ℕ). n * x) (all a))
  where
    none : (a : ℕ) → positive_part (neg_ℤ (pos a)) ≡ 0
    none a = omega (arith, ints)

    all : (a : ℕ) → negative_part (neg_ℤ (pos a)) ≡ a
    all a = omega (arith, ints)

size : (a : ℕ) → nat_abs (neg_ℤ (pos a)) ≡ a
size a = omega (arith, ints)

pub rounded-near : (s : ℤ) (n : ℕ) → 0 < n → (2 * nat_abs (n · rounded s n -ℤ s) ≤ n) × (2 * nat_abs (n · rounded s n -ℤ s) ≡ n → nat_abs s < n * nat_abs (rounded s n))
unfolding rounded
rounded-near (pos m) n h = (
  omega (arith, multiples, whole m n h, below m n h),
  λ t. omega (arith, multiples, whole m n h, below m n h, t),
)
rounded-near (negsuc k) n h = rw (turned n (q (suc k) n h)) (
  omega (arith, ints, whole (suc k) n h, below (suc k) n h),
  λ t. omega (arith, ints, whole (suc k) n h, below (suc k) n h, t, ap (λ (x : ℕ). n * x) (size (q (suc k) n h))),
)
