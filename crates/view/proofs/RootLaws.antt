-- Laws of roots: relabelled one axis after another, and as a mask whose ones below a bit are counted.
use Rattle.std.specs.Prelude.{if◌then◌else◌}
use mathlib.Core.Path.{◌≡◌, refl, sym, ap, ◌∙◌}
use mathlib.Core.List.{List, ◌++◌, map}
use Prim.Native.Nat.{ℕ, zero, suc, ◌+◌, ◌-◌, ◌*◌, ◌%◌, ◌^◌, ◌≤◌, ◌<◌}
use native.Mathlib.Nat.{pow-suc, zero-add, suc-add, mod-eq_of_lt, add-mul-mod_self_right, one-mul}
use native.Mathlib.Numerals.{add-one}
use native.Mathlib.Omega.{arith}
use lib.Bits.{and_mask, bit_and, bit_or, or_shifted_r}
use lib.Count.{ones, ones_in, ones_cat}
use lib.ListN.{take, drop}
use lib.Pow.{pow-add}
use borrow.Author.Tests.{eq-eqb, ne_eqb}
use Rattle.std.proofs.lemmas.Int.{ints}
use Rattle.view.specs.Ties.{root_at, renamed, is_root, mask_of}
use Rattle.view.proofs.MaskLaws.{shifted_one}
use Rattle.view.proofs.RangeLaws.{passing-zero, count, count_yes, count_no}

-- ---- relabelled roots

-- the first i are relabelled, the rest is to be
abbrev pub relabelled_from : ℕ → ℕ → ℕ → List ℕ → List ℕ
relabelled_from from to i roots = take i roots ++ map (renamed from to) (drop i roots)

-- ---- the mask of roots

-- `(1 << root) - 1` in 16 bits keeps the bits below the root
pub bits_below : (mask root : ℕ) → root < 16 → bit_and mask ((1 * 2 ^ root) % 65536 - 1) ≡ mask % 2 ^ root
bits_below mask root h = rw (shifted_one root h) (and_mask mask root)

pub mask_none : (roots : List ℕ) → 0 ≡ mask_of roots 0
unfolding mask_of
mask_none roots = refl

module _ (roots : List ℕ) where
  mask_fits : (n : ℕ) → mask_of roots n < 2 ^ n
  unfolding mask_of
  mask_fits zero = omega arith
  mask_fits (suc n) = let below = mask_fits n in grind (arith, ints, pow-suc 2 n)

  -- a root's bit is set, another's is not
  pub mask_set : (n mask : ℕ) → n < 16 → root_at roots n ≡ n → mask ≡ mask_of roots n → bit_or mask ((1 * 2 ^ n) % 65536) ≡ mask_of roots (n + 1)
  unfolding mask_of
  mask_set n mask h e is =
      let s : (1 * 2 ^ n) % 65536 ≡ 1 * 2 ^ n = shifted_one n h ∙ sym (one-mul (2 ^ n)) in
      rw (s, is, or_shifted_r 1 n (mask_of roots n) (mask_fits n), add-one, mask_of, eq-eqb (root_at roots n) n e)

  pub mask_clear : (n : ℕ) → (root_at roots n ≡ n → ⊥) → mask_of roots n ≡ mask_of roots (n + 1)
  unfolding mask_of
  mask_clear n e = rw (add-one, mask_of, ne_eqb (root_at roots n) n e) (omega arith)

  -- its ones are the roots
  pub mask-ones : (n : ℕ) → ones (mask_of roots n) ≡ count (is_root roots) n
  unfolding mask_of ones ones_in
  mask-ones zero = rw (passing-zero (is_root roots))
  mask-ones (suc n) =
      let below = mask-ones n in
      let one : ones 1 ≡ 1 = refl in
      let none : ones 0 ≡ 0 = refl in
      ones_cat n (if is_root roots n then 1 else 0) (mask_of roots n) (mask_fits n) ∙ grind (arith, ints, count_yes (is_root roots) n, count_no (is_root roots) n)

  -- its low bits are the mask of the low axes
  mask_low : (k d : ℕ) → mask_of roots (d + k) % 2 ^ k ≡ mask_of roots k
  unfolding mask_of
  mask_low k zero = rw zero-add (mod-eq_of_lt (mask_fits k))
  mask_low k (suc d) =
      rw (suc-add, mask_of, pow-add 2 d k)
      (let b : ℕ = if is_root roots (d + k) then 1 else 0 in
      let e : b * (2 ^ d * 2 ^ k) + mask_of roots (d + k) ≡ mask_of roots (d + k) + (b * 2 ^ d) * 2 ^ k = omega arith in
      rw e (add-mul-mod_self_right (mask_of roots (d + k)) (b * 2 ^ d) (2 ^ k) ∙ mask_low k d))

  -- the ones below bit k are the roots below axis k
  pub ones_below : (n k : ℕ) → k ≤ n → ones (mask_of roots n % 2 ^ k) ≡ count (is_root roots) k
  ones_below n k h =
      let e : n ≡ (n - k) + k = omega arith in
      ap (λ (m : ℕ). ones (mask_of roots m % 2 ^ k)) e ∙ ap ones (mask_low k (n - k)) ∙ mask-ones k
