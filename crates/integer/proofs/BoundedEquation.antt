-- The equation u a + v b = c in naturals with u ≤ mu and v ≤ mv, decided (`solution?`). If a and b are positive: divided by their
-- greatest common divisor, u is known modulo b, and the least u of that class that keeps v ≤ mv is tested. Else by trying all.
use Rattle.std.proofs.Common.{◌≡◌, ◌∙◌, ◌⊎◌, ◌↔◌, Bool, ◌&&◌, not, T, eqb, leb, ℕ, zero, suc, ◌%◌, ◌*◌, ◌+◌, ◌-◌, ◌/◌, ◌<◌, ◌≤◌, ap, arith, inl, inr, sym}
use native.Mathlib.Decide.{ℕ_discrete}
use native.Mathlib.Nat.{div-add-mod', div-lt_iff_lt-mul, dvd-mul_left, le_of_mul-le-mul_right, mod-eq-zero_of_dvd, mod-le, mod-lt, mul-div_cancel, mul-le-mul_right, zero-mod}
use Rattle.integer.proofs.Congruence.{coefficient, congruent-by-inverse, congruent-mul, congruent-sym, congruent-trans, coefficient-inverse, mod-of-congruent, root, root_is}
use Rattle.integer.proofs.Decide.{by_test, find}
use Rattle.integer.proofs.GcdLaws.{gcd-pos, left_back, left-pos, right-back, right-pos}
use Rattle.integer.specs.Congruence.{IsCongruent}
use Rattle.integer.specs.Equation.{Solution}
use Rattle.integer.specs.Gcd.{gcd}
use Rattle.std.proofs.lemmas.Int.{ints}

-- The first number from lo on that is u₀ modulo b.
unfoldable pub first_from : ℕ → ℕ → ℕ → ℕ
first_from b lo u₀ = lo + (u₀ + (b - lo % b)) % b

-- It is from there on and of the class, and it is the least such.
first-from : (b lo u₀ : ℕ) → lo ≤ first_from b lo u₀
unfolding first_from
first-from b lo u₀ = omega arith

first-class : (b lo u₀ : ℕ) → 0 < b → IsCongruent b (first_from b lo u₀) u₀
unfolding first_from
first-class b lo u₀ h = let l = mod-lt lo h in
    record { p = (u₀ + (b - lo % b)) / b; q = lo / b + 1; eq = omega (arith, div-add-mod' (u₀ + (b - lo % b)) b, div-add-mod' lo b) }

first-least : (b lo u₀ u : ℕ) → 0 < b → lo ≤ u → IsCongruent b u u₀ → first_from b lo u₀ ≤ u
unfolding first_from
first-least b lo u₀ u h l c =
    let m = mod-lt lo h in
    let e : IsCongruent b (u₀ + (b - lo % b)) (u - lo) = record { p = c.q; q = lo / b + c.p + 1; eq = omega (arith, c.eq, div-add-mod' lo b) } in
    omega (arith, mod-of-congruent b (u₀ + (b - lo % b)) (u - lo) e, mod-le (u - lo) b)

-- From here on v is at most mv: u a is at least c - mv b. That is c - mv b over a, rounded up.
unfoldable pub lowest : ℕ → ℕ → ℕ → ℕ → ℕ
lowest a b mv c = (c - mv * b + (a - 1)) / a

lowest-is : (a b mv c u : ℕ) → 0 < a → (lowest a b mv c ≤ u) ↔ (c - mv * b ≤ u * a)
unfolding lowest
lowest-is a b mv c u h = rounded-up (c - mv * b)
  where
    rounded-up : (m : ℕ) → ((m + (a - 1)) / a ≤ u) ↔ (m ≤ u * a)
    rounded-up m = (
      λ l. omega (arith, div-add-mod' (m + (a - 1)) a, mod-lt (m + (a - 1)) h, mul-le-mul_right a l),
      λ l. let z : m + (a - 1) < suc u * a = omega arith in omega (arith, (div-lt_iff_lt-mul h).1 z),
    )

-- The first u of its class from there on is within its bound, and leaves v at least 0.
unfoldable pub fits_test : ℕ → ℕ → ℕ → ℕ → ℕ → ℕ → Bool
fits_test a b mu mv c u₀ = leb (first_from b (lowest a b mv c) u₀) mu && leb (first_from b (lowest a b mv c) u₀ * a) c

-- With an inverse s of a: the test tells whether there is a solution.
module _ (a b mu mv c s : ℕ) (ha : 0 < a) (hb : 0 < b) (i : IsCongruent b 1 (s * a)) where
  abbrev first : ℕ
  first = first_from b (lowest a b mv c) (root b s c)

  -- For a u whose product leaves a multiple of b, and no more than mv of them, there is a v.
  solution-of : (u : ℕ) → u ≤ mu → u * a ≤ c → c - mv * b ≤ u * a → IsCongruent b (u * a) c → Solution a b mu mv c
  solution-of u hu hc m d =
      let e : IsCongruent b (c - u * a) 0 = record { p = d.q; q = d.p; eq = omega (arith, d.eq) } in
      let w : (c - u * a) / b * b ≡ c - u * a = omega (arith, div-add-mod' (c - u * a) b, mod-of-congruent b (c - u * a) 0 e, zero-mod b) in
      let y : (c - u * a) / b * b ≤ mv * b = omega arith in
      record { u = u; v = (c - u * a) / b; u_within = hu; v_within = le_of_mul-le-mul_right y hb; sum = omega arith }

  fits-solution : T (fits_test a b mu mv c (root b s c)) → Solution a b mu mv c
  unfolding fits_test
  fits-solution t =
      let f : (first ≤ mu) × (first * a ≤ c) = grind (arith, ints) in
      let k = congruent-trans (congruent-mul a (first-class b (lowest a b mv c) (root b s c) hb)) (root_is a b s c i) in
      solution-of first f.0 f.1 ((lowest-is a b mv c first ha).0 (first-from b (lowest a b mv c) (root b s c))) k

  solution-fits : Solution a b mu mv c → T (fits_test a b mu mv c (root b s c))
  unfolding fits_test
  solution-fits k =
      let ca : IsCongruent b (k.u * a) c = record { p = k.v; q = 0; eq = omega (arith, k.sum) } in
      let cu = congruent-by-inverse a b s k.u (root b s c) i (congruent-trans ca (congruent-sym (root_is a b s c i))) in
      let lo : lowest a b mv c ≤ k.u = (lowest-is a b mv c k.u ha).1 (omega (arith, k.sum, mul-le-mul_right b k.v_within)) in
      let le : first ≤ k.u = first-least b (lowest a b mv c) (root b s c) k.u hb lo cu in
      let x : first ≤ mu = omega (arith, k.u_within) in
      let y : first * a ≤ c = omega (arith, k.sum, mul-le-mul_right a le) in
      grind (arith, ints)

-- A common factor g of a and b divides c, and goes out of the equation and back in.
solution-divided : (g a b mu mv c : ℕ) → 0 < g → Solution (a * g) (b * g) mu mv c → (c % g ≡ 0) × Solution a b mu mv (c / g)
solution-divided g a b mu mv c h s =
    let e : c ≡ (s.u * a + s.v * b) * g = omega (arith, s.sum) in (
      mod-eq-zero_of_dvd g (rw e (dvd-mul_left g (s.u * a + s.v * b))),
      record { u = s.u; v = s.v; u_within = s.u_within; v_within = s.v_within; sum = sym (ap (λ (z : ℕ). z / g) e ∙ mul-div_cancel (s.u * a + s.v * b) h) },
    )

solution-multiplied : (g a b mu mv c : ℕ) → c % g ≡ 0 → Solution a b mu mv (c / g) → Solution (a * g) (b * g) mu mv c
solution-multiplied g a b mu mv c z s =
    record { u = s.u; v = s.v; u_within = s.u_within; v_within = s.v_within; sum = omega (arith, ap (λ (x : ℕ). x * g) s.sum, div-add-mod' c g) }

-- Whether there is a solution, for positive a and b: the greatest common divisor divides c, and the root of the divided equation fits.
unfoldable pub solvable : ℕ → ℕ → ℕ → ℕ → ℕ → Bool
solvable a b mu mv c = eqb (c % gcd a b) 0 && fits_test (a / gcd a b) (b / gcd a b) mu mv (c / gcd a b) (root (b / gcd a b) (coefficient a b) (c / gcd a b))

module _ (a b mu mv c : ℕ) (ha : 0 < a) (hb : 0 < b) where
  abbrev g : ℕ
  g = gcd a b

  abbrev fit : Bool
  fit = fits_test (a / g) (b / g) mu mv (c / g) (root (b / g) (coefficient a b) (c / g))

  pub solvable-yes : T (solvable a b mu mv c) → Solution a b mu mv c
  unfolding solvable
  solvable-yes t =
      let w : (c % g ≡ 0) × T fit = grind (arith, ints) in
      let s = fits-solution (a / g) (b / g) mu mv (c / g) (coefficient a b) (left-pos a b ha) (right-pos a b hb) (coefficient-inverse a b ha hb) w.1 in
      rw (left_back a b, right-back a b) at (solution-multiplied g (a / g) (b / g) mu mv c w.0 s)

  pub solvable-no : T (not (solvable a b mu mv c)) → Solution a b mu mv c → ⊥
  unfolding solvable
  solvable-no t s =
      let d = solution-divided g (a / g) (b / g) mu mv c (gcd-pos a b ha) (rw (left_back a b, right-back a b) s) in
      let f : T fit = solution-fits (a / g) (b / g) mu mv (c / g) (coefficient a b) (left-pos a b ha) (right-pos a b hb) (coefficient-inverse a b ha hb) d.1 in
      let e : c % g ≡ 0 = d.0 in
      grind (arith, ints)

-- Some v within its bound solves the equation with this u.
abbrev SolvedBy : ℕ → ℕ → ℕ → ℕ → ℕ → Type 0
SolvedBy a b mv c u = (v : ℕ) × (v < suc mv) × (u * a + v * b ≡ c)

-- Every u and every v tried, for a or b that is 0.
pub by_trying : (a b mu mv c : ℕ) → Dec (Solution a b mu mv c)
by_trying a b mu mv c = go (find (SolvedBy a b mv c) (λ u. row u (find (λ v. u * a + v * b ≡ c) (λ v. ℕ_discrete (u * a + v * b) c) (suc mv))) (suc mu))
  where
    row : (u : ℕ) → SolvedBy a b mv c u ⊎ ((v : ℕ) → v < suc mv → ¬ (u * a + v * b ≡ c)) → Dec (SolvedBy a b mv c u)
    row u (inl w) = yes w
    row u (inr f) = no (λ w. f w.0 w.1 w.2)

    go : ((u : ℕ) × (u < suc mu) × SolvedBy a b mv c u) ⊎ ((u : ℕ) → u < suc mu → ¬ (SolvedBy a b mv c u)) → Dec (Solution a b mu mv c)
    go (inl w) = yes (record { u = w.0; v = w.2.0; u_within = omega (arith, w.1); v_within = omega (arith, w.2.1); sum = w.2.2 })
    go (inr f) = no (λ s. let hu : s.u < suc mu = omega (arith, s.u_within) in let hv : s.v < suc mv = omega (arith, s.v_within) in f s.u hu (s.v, hv, s.sum))

-- Whether there is a solution.
unfoldable pub solution? : (a b mu mv c : ℕ) → Dec (Solution a b mu mv c)
solution? zero b mu mv c = by_trying zero b mu mv c
solution? (suc a) zero mu mv c = by_trying (suc a) zero mu mv c
solution? (suc a) (suc b) mu mv c = by_test (solvable (suc a) (suc b) mu mv c) (solvable-yes (suc a) (suc b) mu mv c (omega arith) (omega arith)) (solvable-no (suc a) (suc b) mu mv c (omega arith) (omega arith))
