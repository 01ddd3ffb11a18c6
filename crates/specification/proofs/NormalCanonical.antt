-- Normal lists that read alike are equal. The first stride is the sum at 1; the first extent is where the sum stops being a multiple of it,
-- since the next axis does not continue it; and the rest is read at the multiples of the first extent.
use mathlib.Core.Path.{◌≡◌, refl, sym, ap, ap₂, ◌∙◌}
use mathlib.Core.List.{List, [], ◌∷◌}
use Prim.Native.Nat.{ℕ, ◌*◌, ◌<◌, ◌≤◌}
use native.Mathlib.Nat.{mul-one, mod-eq_of_lt, div-eq_of_lt, zero-mod, zero-div, mul-mod_right, mul-div_right, eq_of_mul-eq-mul_left, mul-lt-mul_of_pos_left, le-mul_of_pos_right}
use native.Mathlib.Omega.{arith}
use lib.IntN.{ℤ, pos, +ℤ_idl, +ℤ_idr}
use Rattle.integer.specs.Multiple.{◌·◌}
use Rattle.integer.proofs.MultipleLaws.{·-one, ·-zero}
use Rattle.specification.specs.Axis.{Axis, positions, product, index_at, offset_sum, sum_at}
use Rattle.specification.proofs.NormalAxes.{Normal, none, more, normal-positive, positions-pos}

-- ---- what a list reads at some numbers

-- at 0 all indices are 0
pub sum-at-zero : (r : List Axis) → sum_at r 0 ≡ pos 0
unfolding index_at offset_sum
sum-at-zero [] = refl
sum-at-zero (a ∷ r) = rw (zero-mod, zero-div, ·-zero, sum-at-zero r)

-- below the first extent only the first index is not 0
sum_below : (a : Axis) (r : List Axis) (k : ℕ) → k < a.extent → sum_at (a ∷ r) k ≡ k · a.stride
unfolding index_at offset_sum
sum_below a r k h = rw (mod-eq_of_lt, div-eq_of_lt, sum-at-zero r, +ℤ_idr)

-- at the multiples of the first extent the first index is 0
sum-at-multiple : (a : Axis) (r : List Axis) (k : ℕ) → 0 < a.extent → sum_at (a ∷ r) (a.extent * k) ≡ sum_at r k
unfolding index_at offset_sum
sum-at-multiple a r k h = rw (mul-mod_right, mul-div_right, ·-zero, +ℤ_idl)

-- the sum at 1 is the first stride
sum-at-one : (a : Axis) (r : List Axis) → 2 ≤ a.extent → sum_at (a ∷ r) 1 ≡ a.stride
sum-at-one a r h = sum_below a r 1 h ∙ ·-one a.stride

-- ---- the first extent

-- of two normal lists that read alike the first cannot have the smaller first extent: its next stride would be read as a multiple of its first
not-smaller : (a b : Axis) {r q : List Axis} → Normal (a ∷ r) → Normal (b ∷ q) → a.stride ≡ b.stride → positions (a ∷ r) ≡ positions (b ∷ q)
    → ((k : ℕ) → k < positions (a ∷ r) → sum_at (a ∷ r) k ≡ sum_at (b ∷ q) k) → a.extent < b.extent → ⊥
unfolding product
not-smaller a b (more ha fa none) (more {r = q} hb fb tb) es ec f h = omega (arith, le-mul_of_pos_right b.extent (positions-pos (normal-positive tb)))
not-smaller a b (more ha fa (more {a = c} {r} hc fc tc)) (more {r = q} hb fb tb) es ec f h =
    let big : a.extent * 1 < a.extent * (c.extent * positions r) = omega (arith, le-mul_of_pos_right b.extent (positions-pos (normal-positive tb))) in
    let low : a.extent * 1 < b.extent = omega arith in
    fa (sym (sum-at-one c r hc) ∙ sym (sum-at-multiple a (c ∷ r) 1 (omega arith)) ∙ f (a.extent * 1) big ∙ sum_below b q (a.extent * 1) low
    ∙ ap₂ (λ (x : ℕ) (y : ℤ). x · y) (mul-one a.extent) (sym es))

-- ---- equal lists

-- axes of one extent and one stride are equal
axis-path : (a b : Axis) → a.extent ≡ b.extent → a.stride ≡ b.stride → a ≡ b
axis-path a b p q = λ i. record { extent = p i; stride = q i }

-- a normal list with an axis has two positions or more
two-positions : (a : Axis) {r : List Axis} → 2 ≤ a.extent → Normal r → 1 < positions (a ∷ r)
unfolding product
two-positions a h t = omega (arith, le-mul_of_pos_right a.extent (positions-pos (normal-positive t)))

-- axis by axis from the first
pub canonical-axes : {l m : List Axis} → Normal l → Normal m → positions l ≡ positions m → ((k : ℕ) → k < positions l → sum_at l k ≡ sum_at m k) → l ≡ m
unfolding product
canonical-axes none none ec f = refl
canonical-axes none (more {a} h g t) ec f = absurd (omega (arith, two-positions a h t))
canonical-axes (more {a} h g t) none ec f = absurd (omega (arith, two-positions a h t))
canonical-axes (more {a} {r} h g t) (more {a = b} {r = q} k e w) ec f =
    ap₂ (λ (x : Axis) (y : List Axis). x ∷ y) (axis-path a b same-extent same-stride) (canonical-axes t w as_many alike)
  where
    same-stride : a.stride ≡ b.stride
    same-stride = sym (sum-at-one a r h) ∙ f 1 (two-positions a h t) ∙ sum-at-one b q k

    same-extent : a.extent ≡ b.extent
    same-extent =
        let p : ¬ (a.extent < b.extent) = not-smaller a b (more h g t) (more k e w) same-stride ec f in
        let v : ¬ (b.extent < a.extent) = not-smaller b a (more k e w) (more h g t) (sym same-stride) (sym ec) (λ x hx. sym (f x (rw ec hx))) in
        omega arith

    as_many : positions r ≡ positions q
    as_many = eq_of_mul-eq-mul_left a.extent (omega arith) (positions r) (positions q) (ec ∙ ap (λ (x : ℕ). x * positions q) (sym same-extent))

    alike : (x : ℕ) → x < positions r → sum_at r x ≡ sum_at q x
    alike x hx = sym (sum-at-multiple a r x (omega arith)) ∙ f (a.extent * x) (mul-lt-mul_of_pos_left hx (omega arith))
        ∙ ap (λ (z : ℕ). sum_at (b ∷ q) (z * x)) same-extent ∙ sum-at-multiple b q x (omega arith)
