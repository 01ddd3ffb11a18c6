-- No other number is as near as the rounded quotient; and where all lies between two multiples of n, so does the quotient.
use Rattle.std.proofs.Common.{◌≡◌, ℕ, ◌+◌, ◌*◌, ◌<◌, ◌≤◌, ℤ, pos, negsuc, ◌-ℤ◌, nat_abs, ◌≤ℤ◌, mul-le-mul_left, arith}
use native.Mathlib.Decide.{dec_lt}
use Rattle.integer.specs.Multiple.{◌·◌}
use Rattle.integer.specs.Parts.{positive_part, negative_part}
use Rattle.means.specs.Rounded.{rounded}
use Rattle.integer.proofs.PartLaws.{parts-ext, nat_abs-parts}
use Rattle.integer.proofs.MultipleLaws.{multiples}
use Rattle.std.proofs.lemmas.Int.{ints}
use Rattle.means.proofs.RoundedLaws.{rounded-near}

-- within half of n, and at a half beyond
abbrev pub Near : ℤ → ℕ → ℤ → Type 0
Near s n r = (2 * nat_abs (n · r -ℤ s) ≤ n) × (2 * nat_abs (n · r -ℤ s) ≡ n → nat_abs s < n * nat_abs r)

-- a step of r is a step of n
stepped : (n a b : ℕ) → a < b → n * a + n ≤ n * b
stepped n a b h = omega (arith, mul-le-mul_left n h)

-- the first of two numbers is the less, by their parts
abbrev Below : ℤ → ℤ → Type 0
Below x y = positive_part x + negative_part y < positive_part y + negative_part x

-- n r - s by its parts: up by `up`, or down by `down`
record Distance (s : ℤ) (n : ℕ) (r : ℤ) : Type 0 where
  up : ℕ
  down : ℕ
  sum : nat_abs (n · r -ℤ s) ≡ up + down
  parts : up + (n * negative_part r + positive_part s) ≡ (n * positive_part r + negative_part s) + down

distance : (s : ℤ) (n : ℕ) (r : ℤ) → Distance s n r
distance s n r = record {
  up = positive_part (n · r -ℤ s);
  down = negative_part (n · r -ℤ s);
  sum = nat_abs-parts (n · r -ℤ s);
  parts = omega (arith, multiples);
}

-- of two numbers as near, the first is not the less: both would be halves, on two sides of s, and one of them not beyond it
not-below : (s x y : ℤ) (n : ℕ) → 0 < n → Near s n x → Near s n y → ¬ (Below x y)
not-below s x y n h a b l =
    let dx = distance s n x in
    let dy = distance s n y in
    let st : n * (positive_part x + negative_part y) + n ≤ n * (positive_part y + negative_part x) = stepped n (positive_part x + negative_part y) (positive_part y + negative_part x) l in
    let tx : 2 * nat_abs (n · x -ℤ s) ≡ n = omega (arith, dx.sum, dx.parts, dy.sum, dy.parts, a.0, b.0) in
    let ty : 2 * nat_abs (n · y -ℤ s) ≡ n = omega (arith, dx.sum, dx.parts, dy.sum, dy.parts, a.0, b.0) in
    cases s x y h dx.up dx.down dy.up dy.down dx.parts dy.parts (omega (arith, dx.sum)) (omega (arith, dy.sum)) st (a.1 tx) (b.1 ty)
  where
    cases : (s x y : ℤ) → 0 < n → (ux vx uy vy : ℕ) → ux + (n * negative_part x + positive_part s) ≡ (n * positive_part x + negative_part s) + vx → uy + (n * negative_part y + positive_part s) ≡ (n * positive_part y + negative_part s) + vy
        → 2 * (ux + vx) ≡ n → 2 * (uy + vy) ≡ n → n * (positive_part x + negative_part y) + n ≤ n * (positive_part y + negative_part x)
        → nat_abs s < n * nat_abs x → nat_abs s < n * nat_abs y → ⊥
    cases (pos s) (pos x) (pos y) h ux vx uy vy px py tx ty st bx by = omega arith
    cases (pos s) (pos x) (negsuc y) h ux vx uy vy px py tx ty st bx by = omega arith
    cases (pos s) (negsuc x) (pos y) h ux vx uy vy px py tx ty st bx by = omega arith
    cases (pos s) (negsuc x) (negsuc y) h ux vx uy vy px py tx ty st bx by = omega arith
    cases (negsuc s) (pos x) (pos y) h ux vx uy vy px py tx ty st bx by = omega arith
    cases (negsuc s) (pos x) (negsuc y) h ux vx uy vy px py tx ty st bx by = omega arith
    cases (negsuc s) (negsuc x) (pos y) h ux vx uy vy px py tx ty st bx by = omega arith
    cases (negsuc s) (negsuc x) (negsuc y) h ux vx uy vy px py tx ty st bx by = omega arith

pub rounded-only : (s r : ℤ) (n : ℕ) → 0 < n → Near s n r → r ≡ rounded s n
rounded-only s r n h a = parts-ext (go (dec_lt (positive_part r + negative_part (rounded s n)) (positive_part (rounded s n) + negative_part r)) (dec_lt (positive_part (rounded s n) + negative_part r) (positive_part r + negative_part (rounded s n))))
  where
    go : Dec (Below r (rounded s n)) → Dec (Below (rounded s n) r) → positive_part r + negative_part (rounded s n) ≡ positive_part (rounded s n) + negative_part r
    go (yes l) d = absurd (not-below s r (rounded s n) n h a (rounded-near s n h) l)
    go (no k) (yes l) = absurd (not-below s (rounded s n) r n h (rounded-near s n h) a l)
    go (no k) (no m) = omega arith

-- ---- between

module _ (s bound : ℤ) (n : ℕ) (h : 0 < n) where
  near : 2 * nat_abs (n · rounded s n -ℤ s) ≤ n
  near = (rounded-near s n h).0

  -- s at least n times a number: so is the quotient
  pub rounded-least : (n · bound) ≤ℤ s → bound ≤ℤ rounded s n
  rounded-least le = go (dec_lt (positive_part (rounded s n) + negative_part bound) (positive_part bound + negative_part (rounded s n)))
    where
      go : Dec (Below (rounded s n) bound) → bound ≤ℤ rounded s n
      go (no k) = omega (arith, ints, k)
      go (yes l) = absurd (omega (arith, multiples, stepped n (positive_part (rounded s n) + negative_part bound) (positive_part bound + negative_part (rounded s n)) l, le, near))

  -- s at most n times a number: so is the quotient
  pub rounded-most : s ≤ℤ (n · bound) → rounded s n ≤ℤ bound
  rounded-most le = go (dec_lt (positive_part bound + negative_part (rounded s n)) (positive_part (rounded s n) + negative_part bound))
    where
      go : Dec (Below bound (rounded s n)) → rounded s n ≤ℤ bound
      go (no k) = omega (arith, ints, k)
      go (yes l) = absurd (omega (arith, multiples, stepped n (positive_part bound + negative_part (rounded s n)) (positive_part (rounded s n) + negative_part bound) l, le, near))
