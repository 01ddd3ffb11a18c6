-- A sum of so many readings and one more; and that the mean of readings of 32 bits has 32 bits.
use Rattle.std.proofs.Common.{◌≡◌, true, false, ℕ, suc, ◌+◌, ◌-◌, ◌*◌, ◌/◌, ◌^◌, ◌<◌, ◌≤◌, ℤ, pos, negsuc, neg_ℤ, nat_abs, ◌+ℤ◌, ◌≤ℤ◌, refl, add-one, arith}
use Rattle.std.proofs.lemmas.Int.{ints}
use lib.Signed.{lt_z}
use Rattle.specification.proofs.TestLaws.{true-not-false}
use Rattle.means.specs.Rounded.{rounded}
use Rattle.integer.proofs.MultipleLaws.{multiples}
use Rattle.means.proofs.RoundedOnly.{rounded-least, rounded-most}
use Rattle.means.specs.Means.{sum_of}
use Rattle.means.specs.Rows.{IsSumOf}

pub sum-more : (f : ℕ → ℤ) (n : ℕ) → sum_of f (n + 1) ≡ sum_of f n +ℤ f n
unfolding sum_of
sum-more f n = rw (add-one n) refl

pub sum-none : IsSumOf 0 (pos 0)
sum-none = record { above = omega (arith, multiples); below = omega (arith, multiples) }

pub sum-of-more : (n : ℕ) (sum reading : ℤ) → IsSumOf n sum → negsuc (2 ^ 31 - 1) ≤ℤ reading → reading ≤ℤ pos (2 ^ 31 - 1) → IsSumOf (n + 1) (sum +ℤ reading)
sum-of-more n sum reading s l h = record { above = omega (arith, multiples, s.above, l); below = omega (arith, multiples, s.below, h) }

-- ---- the quotient

pub sum-size : (s : ℤ) (n : ℕ) → n ≤ 65536 → IsSumOf n s → nat_abs s ≤ 2 ^ 47
sum-size s n f w = omega (arith, multiples, w.above, w.below)

-- a mean of so many, without its sign
abbrev pub mean_size : ℕ → ℕ → ℕ
mean_size size n = (2 * size + n) / (2 * n)

mean-above : (m n : ℕ) → 0 < n → IsSumOf n (pos m) → mean_size m n ≤ 2 ^ 31 - 1
unfolding rounded
mean-above m n h w = let q : pos (mean_size m n) ≤ℤ pos (2 ^ 31 - 1) = rounded-most (pos m) (pos (2 ^ 31 - 1)) n h w.below in omega (arith, ints, q)

mean-below : (k n : ℕ) → 0 < n → IsSumOf n (negsuc k) → mean_size (suc k) n ≤ 2 ^ 31
unfolding rounded
mean-below k n h w = let q : negsuc (2 ^ 31 - 1) ≤ℤ neg_ℤ (pos (mean_size (suc k) n)) = rounded-least (negsuc k) (negsuc (2 ^ 31 - 1)) n h w.above in omega (arith, ints, q)

pub mean-fits : (s : ℤ) (n size : ℕ) → 0 < n → IsSumOf n s → size ≡ nat_abs s → (mean_size size n ≤ 2 ^ 31) × (lt_z s (pos 0) ≡ false → mean_size size n < 2 ^ 31)
mean-fits (pos m) n size h w e = let q = mean-above m n h w in rw e (omega (arith, q), λ f. omega (arith, q))
mean-fits (negsuc k) n size h w e = let q = mean-below k n h w in rw e (q, λ f. absurd (true-not-false refl f))

pub mean-up : (s : ℤ) (n size : ℕ) → lt_z s (pos 0) ≡ false → size ≡ nat_abs s → pos (mean_size size n) ≡ rounded s n
unfolding rounded
mean-up (pos m) n size f e = rw e refl
mean-up (negsuc k) n size f e = absurd (true-not-false refl f)

pub mean-down : (s : ℤ) (n size : ℕ) → lt_z s (pos 0) ≡ true → size ≡ nat_abs s → neg_ℤ (pos (mean_size size n)) ≡ rounded s n
unfolding rounded
mean-down (pos m) n size f e = absurd (omega (arith, ints, f))
mean-down (negsuc k) n size f e = rw e refl
