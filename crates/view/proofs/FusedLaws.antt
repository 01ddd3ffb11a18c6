-- The axes of classes, taken in one axis of the layout after another: what an array holds at the places of the roots passed.
use mathlib.Core.Path.{◌≡◌, refl, sym, ap, subst, ◌∙◌}
use mathlib.Core.Bool.{Bool, true, false}
use mathlib.Core.List.{List, [], ◌∷◌, ◌++◌, map, map-append}
use Prim.Native.Nat.{ℕ, zero, suc, ◌+◌, ◌-◌, ◌≤◌, ◌<◌, min}
use native.Mathlib.Omega.{arith}
use lib.Dec.{eqb}
use lib.IntN.{ℤ, pos, ◌+ℤ◌, +ℤ_idl}
use lib.ListN.{length, set, length-map}
use lib.Seq.{get_or-set_same, get_or-set_other}
use borrow.Author.Tests.{eq-eqb, ne_eqb, eqb-true, eqb-false}
use Rattle.integer.specs.Range.{fits}
use Rattle.std.proofs.lemmas.Int.{ints}
use Rattle.specification.specs.Axis.{Axis}
use Rattle.specification.specs.Outcome.{Check, refused, pass, refuse_if, ◌>>◌}
use Rattle.specification.specs.Views.{axis_at, least_extent, stride_sum, stride_fault}
use Rattle.view.specs.Model.{first_axes}
use Rattle.view.specs.Ties.{root_at, is_root, roots_below, fused_at, fused_axes, fused_fault}
use Rattle.view.proofs.RangeLaws.{passing, passing-zero, passing-yes, passing-no, count, count-lt, table-passing}
use Rattle.view.proofs.StrideSumLaws.{least-last, sum-last, fault-fits, fault-over, over-stays, sums-pass, sums-refused}

module _ (axes : List Axis) (roots : List ℕ) where
  -- the axes below n with root r
  abbrev pub members_below : ℕ → ℕ → List Axis
  members_below n r = map (axis_at axes) (passing (λ b. eqb (root_at roots b) r) n)

  -- the axis and the refusal that they make
  abbrev fused_below : ℕ → ℕ → Axis
  fused_below n r = record { extent = least_extent (members_below n r); stride = stride_sum (pos 0) (members_below n r) }

  abbrev pub fault_below : ℕ → ℕ → Check
  fault_below n r = stride_fault (pos 0) (members_below n r)

  -- the new place of a root
  abbrev place_of_root : ℕ → ℕ
  place_of_root = count (is_root roots)

  -- ---- members, one axis more

  members-more : (n r : ℕ) → root_at roots n ≡ r → members_below (n + 1) r ≡ members_below n r ++ (axis_at axes n ∷ [])
  members-more n r e =
      ap (map (axis_at axes)) (passing-yes (λ b. eqb (root_at roots b) r) n (eq-eqb (root_at roots n) r e))
      ∙ map-append (axis_at axes) (passing (λ b. eqb (root_at roots b) r) n) (n ∷ [])

  members-same : (n r : ℕ) → (root_at roots n ≡ r → ⊥) → members_below (n + 1) r ≡ members_below n r
  members-same n r e = ap (map (axis_at axes)) (passing-no (λ b. eqb (root_at roots b) r) n (ne_eqb (root_at roots n) r e))

  members-none : (n r : ℕ) → ((b : ℕ) → b < n → root_at roots b ≡ r → ⊥) → members_below n r ≡ []
  members-none zero r h = rw (passing-zero (λ b. eqb (root_at roots b) r))
  members-none (suc n) r h =
      let e : suc n ≡ n + 1 = omega arith in
      rw e (members-same n r (h n (omega arith)) ∙ members-none n r (λ b k. h b (omega arith)))

  -- a root is a member of its class
  members-some : (n r : ℕ) → r < n → root_at roots r ≡ r → 0 < length (members_below n r)
  members-some n r h e =
      omega (
        arith,
        length-map (passing (λ b. eqb (root_at roots b) r) n) (axis_at axes),
        count-lt (λ b. eqb (root_at roots b) r) r n h (eq-eqb (root_at roots r) r e),
      )

  -- ---- what is stored

  -- an array holds the axis of each class below n, and no sum left 64 bits
  pub record Stored (n : ℕ) (fused : List Axis) : Type 0 where
    pub axis_is : (r : ℕ) → r < n → root_at roots r ≡ r → axis_at fused (place_of_root r) ≡ fused_below n r
    pub sums-fit : (r : ℕ) → r < n → root_at roots r ≡ r → fault_below n r ≡ pass

  -- two roots have two places
  places-apart : (q r : ℕ) → root_at roots q ≡ q → root_at roots r ≡ r → (q ≡ r → ⊥) → place_of_root q ≡ place_of_root r → ⊥
  places-apart q r e f n same = grind (arith, ints, count-lt (is_root roots) q r, count-lt (is_root roots) r q)

  -- the axis of a class changes and the others stay
  stored_at : (n : ℕ) {fused : List Axis} → Stored n fused → (r : ℕ) → root_at roots n ≡ r → root_at roots r ≡ r → place_of_root r < length fused
      → (a : Axis) → a ≡ fused_below (n + 1) r → fault_below (n + 1) r ≡ pass → Stored (n + 1) (set fused (place_of_root r) a)
  stored_at n {fused} stored r is own fits-in a new fine = record {
    axis_is = λ q h o. axis-of q h o (eqb q r) refl;
    sums-fit = λ q h o. sums-of q h o (eqb q r) refl;
  }
    where
      before : (q : ℕ) → q < n + 1 → root_at roots q ≡ q → (q ≡ r → ⊥) → (t : Bool) → eqb q n ≡ t → q < n
      before q h o ne true w = absurd (ne (sym o ∙ ap (root_at roots) (eqb-true q n w) ∙ is))
      before q h o ne false w = let u : q ≡ n → ⊥ = eqb-false q n w in omega arith

      same : (q : ℕ) → (q ≡ r → ⊥) → members_below (n + 1) q ≡ members_below n q
      same q ne = members-same n q (λ w. ne (sym w ∙ is))

      axis-of : (q : ℕ) → q < n + 1 → root_at roots q ≡ q → (t : Bool) → eqb q r ≡ t → axis_at (set fused (place_of_root r) a) (place_of_root q) ≡ fused_below (n + 1) q
      axis-of q h o true w = rw (eqb-true q r w, get_or-set_same fused (place_of_root r) a _ fits-in) new
      axis-of q h o false w =
          let ne : q ≡ r → ⊥ = eqb-false q r w in
          let apart : place_of_root q ≡ place_of_root r → ⊥ = places-apart q r o own ne in
          rw (get_or-set_other fused (place_of_root r) (place_of_root q) a _ apart, same q ne) (stored.axis_is q (before q h o ne (eqb q n) refl) o)

      sums-of : (q : ℕ) → q < n + 1 → root_at roots q ≡ q → (t : Bool) → eqb q r ≡ t → fault_below (n + 1) q ≡ pass
      sums-of q h o true w = rw (eqb-true q r w) fine
      sums-of q h o false w =
          let ne : q ≡ r → ⊥ = eqb-false q r w in
          rw (same q ne) (stored.sums-fit q (before q h o ne (eqb q n) refl) o)

  -- ---- axis n, taken in at place `at`

  module _ (n : ℕ) {fused : List Axis} (stored : Stored n fused) (at : ℕ) where
    -- as the first of its class
    pub stored-first : root_at roots n ≡ n → at ≡ place_of_root n → ((b : ℕ) → b < n → root_at roots b ≤ b) → fits (axis_at axes n).stride ≡ true → at < length fused
        → (a : Axis) → a ≡ axis_at axes n → Stored (n + 1) (set fused at a)
    unfolding least_extent stride_sum stride_fault refuse_if ◌>>◌
    stored-first own at-is low f fits-in a is =
        rw (at-is, is) (stored_at n stored n own own (rw (← at-is) fits-in) (axis_at axes n) (rw (alone, +ℤ_idl)) (rw (alone, +ℤ_idl, f)))
      where
        alone : members_below (n + 1) n ≡ axis_at axes n ∷ []
        alone =
            members-more n n own
            ∙ ap (λ (m : List Axis). m ++ (axis_at axes n ∷ [])) (members-none n n (λ b h w. omega (arith, low b h)))

    -- as a later one
    module _ (r : ℕ) (is : root_at roots n ≡ r) (low : r < n) (own : root_at roots r ≡ r) (at-is : at ≡ place_of_root r) where
      least-is : (axis_at fused at).extent ≡ least_extent (members_below n r)
      least-is = rw at-is (ap (λ (a : Axis). a.extent) (stored.axis_is r low own))

      sum_is : (axis_at fused at).stride ≡ stride_sum (pos 0) (members_below n r)
      sum_is = rw at-is (ap (λ (a : Axis). a.stride) (stored.axis_is r low own))

      with-n : members_below (n + 1) r ≡ members_below n r ++ (axis_at axes n ∷ [])
      with-n = members-more n r is

      pub stored-later : fits ((axis_at fused at).stride +ℤ (axis_at axes n).stride) ≡ true → at < length fused
          → (extent : ℕ) → extent ≡ min (axis_at fused at).extent (axis_at axes n).extent → (stride : ℤ) → stride ≡ (axis_at fused at).stride +ℤ (axis_at axes n).stride
          → Stored (n + 1) (set fused at (record { extent = extent; stride = stride }))
      stored-later f fits-in extent extent_is stride stride_is =
          rw at-is
          (stored_at n stored r is own (rw (← at-is) fits-in) (record { extent = extent; stride = stride })
          (rw (with-n, least-last (members_below n r) _ (members-some n r low own), sum-last (pos 0) (members_below n r), extent_is, stride_is, least-is, sum_is))
          (rw with-n (fault-fits (pos 0) (members_below n r) _ (stored.sums-fit r low own) (rw (← sum_is) f))))

      pub over-here : fits ((axis_at fused at).stride +ℤ (axis_at axes n).stride) ≡ false → fault_below (n + 1) r ≡ refused 3 []
      over-here f = rw with-n (fault-over (pos 0) (members_below n r) _ (stored.sums-fit r low own) (rw (← sum_is) f))

  -- a sum that left 64 bits has left them with more axes
  pub over-later : (n d r : ℕ) → fault_below n r ≡ refused 3 [] → fault_below (n + d) r ≡ refused 3 []
  over-later n zero r f = let e : n + 0 ≡ n = omega arith in rw e f
  over-later n (suc d) r f =
      let e : n + suc d ≡ (n + d) + 1 = omega arith in
      let ih = over-later n d r f in
      rw e (grind (arith, ints, members-more (n + d) r, members-same (n + d) r, over-stays (pos 0) (members_below (n + d) r) (axis_at axes (n + d))))

-- ---- at the end

module _ (axes : List Axis) (roots : List ℕ) where
  -- a class whose sum was over is refused
  pub sums-over : (n r : ℕ) → n ≤ length axes → r < length axes → root_at roots r ≡ r → fault_below axes roots n r ≡ refused 3 []
      → fused_fault axes roots (roots_below roots (length axes)) ≡ refused 3 []
  unfolding passing
  sums-over n r within low own here =
      let e : n + (length axes - n) ≡ length axes = omega arith in
      sums-refused axes roots (is_root roots) (length axes) r low (eq-eqb (root_at roots r) r own)
      (subst (λ (k : ℕ). fault_below axes roots k r ≡ refused 3 []) e (over-later axes roots n (length axes - n) r here))

  module _ {fused : List Axis} (stored : Stored axes roots (length axes) fused) where
    pub sums_none : fused_fault axes roots (roots_below roots (length axes)) ≡ pass
    unfolding passing
    sums_none = sums-pass axes roots (is_root roots) (length axes) (λ r h e. stored.sums-fit r h (eqb-true (root_at roots r) r e))

    pub axes-stored : first_axes fused (count (is_root roots) (length axes)) ≡ fused_axes axes roots
    unfolding passing
    axes-stored = table-passing (is_root roots) (axis_at fused) (fused_at axes roots) (length axes) (λ r h e. stored.axis_is r h (eqb-true (root_at roots r) r e))
