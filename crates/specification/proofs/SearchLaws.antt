-- Search and enumeration tell the truth of a block; each way that the search ends, with its count.
use Rattle.std.specs.Prelude.{Option, Some, None, if◌then◌else◌}
use mathlib.Core.Path.{◌≡◌, refl, sym, ap, ◌∙◌}
use mathlib.Core.Bool.{Bool, true, false}
use mathlib.Core.List.{List, [], ◌∷◌}
use Prim.Native.Nat.{ℕ, zero, suc, ◌+◌, ◌*◌, ◌-◌, ◌<◌, ◌≤◌}
use native.Mathlib.Decide.{ℕ_discrete}
use native.Mathlib.Omega.{arith}
use lib.IntN.{ℤ, pos, nat_abs, ◌-ℤ◌}
use Rattle.integer.specs.Parts.{positive_part, negative_part}
use Rattle.specification.specs.Tests.{is_yes}
use Rattle.specification.specs.Axis.{product, index_at}
use Rattle.specification.specs.Search.{ActiveAxis, lengths, reach, span_sum, total, two_distinct, widths, half, from_digits, difference_at, difference_sum, Completes, CompletesAt, first_of, SameSum}
use Rattle.specification.specs.Decided.{completes?}
use Rattle.integer.proofs.SignedEquation.{nat_abs-of-shifted, negative_part-of-nat_abs, positive_part-of-nat_abs, shifted}
use Rattle.specification.specs.Verdict.{Distinct, Repeated, Undecided, Plan, answered, enumerated, hit, placed, searched}
use Rattle.specification.proofs.Positions.{IndexVector, empty, ◌and◌, place}
use Rattle.specification.proofs.AbsoluteStrides.{SumsApart}
use Rattle.specification.proofs.Digits.{PositiveExtents, index_at-within, place-index_at, index_at-place, place-lt, place-inj}
use Rattle.specification.proofs.Differences.{EqualSums, pair-zero, zero-pair}
use Rattle.specification.proofs.DifferenceWalk.{Solves, Found, middle, half-half, two-zero, widths-positive}
use Rattle.specification.proofs.Collisions.{search_no, search-yes}
use Rattle.specification.proofs.TwoAxes.{no-pair-of-two, pair-of-two}
use Rattle.specification.proofs.BlockLaws.{Live, Lives, lives-pos}
use Rattle.std.proofs.lemmas.Int.{ints}

-- what a plan says of axes; U is what Undecided says
abbrev pub TruePlan : Type 0 → List ActiveAxis → Plan → Type 0
TruePlan U l (answered Distinct c) = SumsApart l
TruePlan U l (answered Repeated c) = EqualSums l
TruePlan U l (answered Undecided c) = U
TruePlan U l (enumerated b) = (SumsApart b → SumsApart l) × (EqualSums b → EqualSums l) × PositiveExtents (lengths b)

pub move : (U : Type 0) {l m : List ActiveAxis} → (SumsApart l → SumsApart m) → (EqualSums l → EqualSums m) → (p : Plan) → TruePlan U l p → TruePlan U m p
move U f g (answered Distinct c) s = f s
move U f g (answered Repeated c) s = g s
move U f g (answered Undecided c) s = s
move U f g (enumerated b) s = (λ r. f (s.0 r), λ p. g (s.1 p), s.2)

-- ---- completing

-- the sum of differences is the sum of the digits less the span
difference-parts : (l : List ActiveAxis) {d : List ℕ} → IndexVector (widths l) d
    → positive_part (difference_sum l (from_digits l d)) + span_sum l ≡ reach l d + negative_part (difference_sum l (from_digits l d))
unfolding difference_sum from_digits reach span_sum
difference-parts [] empty = refl
difference-parts (a ∷ r) (◌and◌ {i = i} {is = d} h b) =
    omega (arith, ints, difference-parts r b, ap (λ (k : ℕ). k * a.stride) (shifted i (a.extent - 1)))

module _ (a b : ActiveAxis) (z : ℤ) (t s : ℕ) (e : positive_part z + s ≡ t + negative_part z) (ha : 0 < a.extent) (hb : 0 < b.extent) where
  completes-solves : Completes a b z → Solves a b t ((a.extent - 1) * a.stride + ((b.extent - 1) * b.stride + s))
  completes-solves w =
      let hx : nat_abs w.x < suc (a.extent - 1) = omega (arith, w.x_below) in
      let hy : nat_abs w.y < suc (b.extent - 1) = omega (arith, w.y_below) in
      let bx : negative_part w.x ≤ a.extent - 1 = negative_part-of-nat_abs w.x (a.extent - 1) hx in
      let by : negative_part w.y ≤ b.extent - 1 = negative_part-of-nat_abs w.y (b.extent - 1) hy in
      let ex : positive_part w.x + (a.extent - 1) - negative_part w.x + negative_part w.x ≡ positive_part w.x + (a.extent - 1) = omega arith in
      let ey : positive_part w.y + (b.extent - 1) - negative_part w.y + negative_part w.y ≡ positive_part w.y + (b.extent - 1) = omega arith in
      record {
        u = positive_part w.x + (a.extent - 1) - negative_part w.x;
        v = positive_part w.y + (b.extent - 1) - negative_part w.y;
        uu = omega (arith, positive_part-of-nat_abs w.x (a.extent - 1) hx);
        vv = omega (arith, positive_part-of-nat_abs w.y (b.extent - 1) hy);
        sum = omega (arith, ints, w.to_zero, ap (λ (k : ℕ). k * a.stride) ex, ap (λ (k : ℕ). k * b.stride) ey);
      }

  solves-completes : Solves a b t ((a.extent - 1) * a.stride + ((b.extent - 1) * b.stride + s)) → Completes a b z
  solves-completes w = record {
    x = pos w.u -ℤ pos (a.extent - 1);
    y = pos w.v -ℤ pos (b.extent - 1);
    x_below = omega (arith, nat_abs-of-shifted (pos w.u -ℤ pos (a.extent - 1)) w.u (a.extent - 1) (shifted w.u (a.extent - 1)) (omega (arith, w.uu)));
    y_below = omega (arith, nat_abs-of-shifted (pos w.v -ℤ pos (b.extent - 1)) w.v (b.extent - 1) (shifted w.v (b.extent - 1)) (omega (arith, w.vv)));
    to_zero = omega (arith, ints, w.sum, e, ap (λ (k : ℕ). k * a.stride) (shifted w.u (a.extent - 1)), ap (λ (k : ℕ). k * b.stride) (shifted w.v (b.extent - 1)));
  }

-- ---- the first place

abbrev pub First : (ℕ → Bool) → ℕ → ℕ → Option ℕ → Type 0
First test n c None = (d : ℕ) → c ≤ d → d < c + n → test d ≡ false
First test n c (Some p) = (c ≤ p) × (p < c + n) × (test p ≡ true) × ((d : ℕ) → c ≤ d → d < p → test d ≡ false)

pub first-of : (test : ℕ → Bool) (n c : ℕ) → First test n c (first_of test n c)
unfolding first_of
first-of test zero c = λ d l h. absurd (omega arith)
first-of test (suc n) c = go (test c) refl (first_of test n (suc c)) (first-of test n (suc c))
  where
    here : (d : ℕ) → c ≤ d → test c ≡ false → (suc c ≤ d → test d ≡ false) → Dec (c ≡ d) → test d ≡ false
    here d l n w (yes e) = rw (← e) n
    here d l n w (no e) = w (omega arith)

    go : (x : Bool) → test c ≡ x → (o : Option ℕ) → First test n (suc c) o → First test (suc n) c (if x then Some c else o)
    go true e o w = (omega arith, omega arith, e, λ d l h. absurd (omega arith))
    go false e None w = λ d l h. here d l e (λ m. w d m (omega arith)) (ℕ_discrete c d)
    go false e (Some p) w = (omega (arith, w.0), omega (arith, w.1), w.2, λ d l h. here d l e (λ m. w.3 d m h) (ℕ_discrete c d))

yes-is : {P : Type 0} (d : Dec P) → is_yes d ≡ true → P
yes-is d e = grind (arith, ints)

no-is : {P : Type 0} (d : Dec P) → is_yes d ≡ false → P → ⊥
no-is d e q = grind (arith, ints)

hit-yes : (a b : ActiveAxis) (others : List ActiveAxis) (c : ℕ) → hit a b others c ≡ true → CompletesAt a b others c
unfolding hit
hit-yes a b others c e = yes-is (completes? a b (difference_sum others (difference_at others (half others + c)))) e

hit-no : (a b : ActiveAxis) (others : List ActiveAxis) (c : ℕ) → hit a b others c ≡ false → CompletesAt a b others c → ⊥
unfolding hit
hit-no a b others c e w = no-is (completes? a b (difference_sum others (difference_at others (half others + c)))) e w

-- ---- search

-- each way that the search ends
pub data SearchEnd (a b : ActiveAxis) (others : List ActiveAxis) : Plan → Type 0 where
  collided : two_distinct a b ≡ false → SearchEnd a b others (answered Repeated 0)
  completed : {c : ℕ} → two_distinct a b ≡ true → c < half others → CompletesAt a b others (suc c) → ((d : ℕ) → d < c → ¬ (CompletesAt a b others (suc d)))
      → SearchEnd a b others (answered Repeated (suc c))
  exhausted : two_distinct a b ≡ true → ((d : ℕ) → d < half others → ¬ (CompletesAt a b others (suc d))) → SearchEnd a b others (answered Distinct (half others))

pub search-end : (a b : ActiveAxis) (others : List ActiveAxis) → SearchEnd a b others (searched a b others)
unfolding searched placed
search-end a b others = go (two_distinct a b) refl
  where
    fin : two_distinct a b ≡ true → (o : Option ℕ) → First (hit a b others) (half others) 1 o → SearchEnd a b others (placed others o)
    fin e None w = exhausted e (λ d h. hit-no a b others (suc d) (w (suc d) (omega arith) (omega arith)))
    fin e (Some zero) w = absurd (omega (arith, w.0))
    fin e (Some (suc c)) w = completed {c = c} e (omega (arith, w.1)) (hit-yes a b others (suc c) w.2) (λ d h. hit-no a b others (suc d) (w.3 (suc d) (omega arith) (omega arith)))

    go : (t : Bool) → two_distinct a b ≡ t → SearchEnd a b others (if t then placed others (first_of (hit a b others) (half others) 1) else answered Repeated 0)
    go true e = fin e (first_of (hit a b others) (half others) 1) (first-of (hit a b others) (half others) 1)
    go false e = collided e

pub half_is : (l : List ActiveAxis) → PositiveExtents (lengths l) → half l ≡ middle l
unfolding half
half_is l h = omega (arith, half-half l h)

module _ (a b : ActiveAxis) (r : List ActiveAxis) (la : Live a) (lb : Live b) (lr : Lives r) where
  hp : PositiveExtents (lengths r)
  hp = lives-pos r lr

  ga : 0 < a.extent
  ga = omega (arith, la.long)

  gb : 0 < b.extent
  gb = omega (arith, lb.long)

  parts_at : (k : ℕ) → k < product (widths r) → positive_part (difference_sum r (difference_at r k)) + span_sum r ≡ reach r (index_at (widths r) k) + negative_part (difference_sum r (difference_at r k))
  parts_at k h = difference-parts r (index_at-within (widths-positive r hp) k h)

  found-place : Found a b r → (c : ℕ) × (c < half r) × CompletesAt a b r (suc c)
  unfolding span_sum
  found-place f =
      let e = half_is r hp in
      let hh = half-half r hp in
      let q : half r + suc (f.k - suc (half r)) ≡ f.k = omega (arith, f.high) in (
        f.k - suc (half r),
        omega (arith, f.low, f.high),
        rw q (solves-completes a b (difference_sum r (difference_at r f.k)) (reach r (index_at (widths r) f.k)) (span_sum r) (parts_at f.k f.low) ga gb f.solves),
      )

  place_found : (c : ℕ) → c < half r → CompletesAt a b r (suc c) → Found a b r
  unfolding span_sum
  place_found c h w =
      let e = half_is r hp in
      let hh = half-half r hp in
      let low : half r + suc c < product (widths r) = omega arith in
      record {
        k = half r + suc c;
        high = omega arith;
        low = low;
        solves = completes-solves a b (difference_sum r (difference_at r (half r + suc c))) (reach r (index_at (widths r) (half r + suc c))) (span_sum r) (parts_at (half r + suc c) low) ga gb w;
      }

  pub says-search : (U : Type 0) {p : Plan} → SearchEnd a b r p → TruePlan U (a ∷ b ∷ r) p
  says-search U (collided e) = zero-pair (a ∷ b ∷ r) (two-zero a b r hp (pair-zero (a ∷ b ∷ []) (pair-of-two a b la.moves lb.moves e)))
  says-search U (completed {c} e h w f) = search-yes a b r hp (place_found c h w)
  says-search U (exhausted e f) = search_no a b r hp (λ z. no-pair-of-two a b la.moves lb.moves e (zero-pair (a ∷ b ∷ []) z))
      (λ w. let p = found-place w in f p.0 p.1 p.2)

-- ---- enumeration

pub same-pair : (l : List ActiveAxis) → PositiveExtents (lengths l) → SameSum l → EqualSums l
same-pair l h s =
    let bi : s.one < total l = omega (arith, s.before, s.within) in
    record {
      x = index_at (lengths l) s.one;
      y = index_at (lengths l) s.other;
      bx = index_at-within h s.one bi;
      by = index_at-within h s.other s.within;
      other = λ e. let z : s.one ≡ s.other = sym (place-index_at h s.one bi) ∙ ap (λ (q : List ℕ). place (lengths l) q) e ∙ place-index_at h s.other s.within in omega (arith, z, s.before);
      same = s.same;
    }

pub no_same : (l : List ActiveAxis) → ¬ (SameSum l) → SumsApart l
no_same l n x y bx by e =
    let p : ¬ (place (lengths l) x < place (lengths l) y) = λ h. n (record { one = place (lengths l) x; other = place (lengths l) y; before = h; within = place-lt by; same = digit_sum bx ∙ e ∙ sym (digit_sum by) }) in
    let q : ¬ (place (lengths l) y < place (lengths l) x) = λ h. n (record { one = place (lengths l) y; other = place (lengths l) x; before = h; within = place-lt bx; same = digit_sum by ∙ sym e ∙ sym (digit_sum bx) }) in
    place-inj bx by (omega arith)
  where
    digit_sum : {x : List ℕ} → IndexVector (lengths l) x → reach l (index_at (lengths l) (place (lengths l) x)) ≡ reach l x
    digit_sum b = ap (λ (z : List ℕ). reach l z) (index_at-place b)
