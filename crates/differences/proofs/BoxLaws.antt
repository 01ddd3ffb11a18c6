-- Axes where there is a position, so that no extent is 0: in parts, and one by one. Each multiplies the positions and the difference
-- vectors.
use Rattle.std.proofs.Common.{◌≡◌, ◌∙◌, sym, ap, refl, ℕ, zero, suc, ◌+◌, ◌*◌, ◌-◌, ◌<◌, ◌≤◌, List, [], ◌∷◌, ◌++◌, length, get_or, take, drop, arith, mul-pos, take-append-drop}
use Rattle.std.proofs.lemmas.Int.{ints}
use Rattle.std.proofs.lemmas.List.{take_more, take_rest}
use Rattle.specification.specs.Axis.{product}
use Rattle.specification.specs.Search.{ActiveAxis, lengths, total, box, span_sum}
use Rattle.specification.proofs.Digits.{PositiveExtents, none, more}

-- what is read past the end
abbrev pub no_axis : ActiveAxis
no_axis = record { axis = 0; extent = 0; stride = 0 }

pub head-some : (e n : ℕ) → 0 < e * n → (0 < e) × (0 < n)
head-some e n h = grind (arith, ints)

pub positive-extents : (axes : List ActiveAxis) → 0 < total axes → PositiveExtents (lengths axes)
unfolding product
positive-extents [] h = none
positive-extents (a ∷ rest) h = let s = head-some a.extent (total rest) h in more s.0 (positive-extents rest s.1)

pub box-some : (axes : List ActiveAxis) → 0 < total axes → 0 < box axes
unfolding product
box-some [] h = omega arith
box-some (a ∷ rest) h =
    let s = head-some a.extent (total rest) h in
    let w : 0 < 2 * a.extent - 1 = omega (arith, s.0) in
    mul-pos w (box-some rest s.1)

-- and back: of an extent 0 there is no difference
pub some-total : (axes : List ActiveAxis) → 0 < box axes → 0 < total axes
unfolding product
some-total [] h = omega arith
some-total (a ∷ rest) h =
    let s = head-some (2 * a.extent - 1) (box rest) h in
    let e : 0 < a.extent = omega (arith, s.0) in
    mul-pos e (some-total rest s.1)

-- ---- two parts

pub total-append : (u v : List ActiveAxis) → total (u ++ v) ≡ total u * total v
unfolding product
total-append [] v = omega arith
total-append (a ∷ u) v = let z = ap (λ (n : ℕ). a.extent * n) (total-append u v) in omega arith

pub span-append : (u v : List ActiveAxis) → span_sum (u ++ v) ≡ span_sum u + span_sum v
unfolding span_sum
span-append [] v = omega arith
span-append (a ∷ u) v = omega (arith, span-append u v)

pub box-append : (u v : List ActiveAxis) → box (u ++ v) ≡ box u * box v
unfolding product
box-append [] v = omega arith
box-append (a ∷ u) v = let z = ap (λ (n : ℕ). (2 * a.extent - 1) * n) (box-append u v) in omega arith

-- the axes from c on
pub total_rest : (axes : List ActiveAxis) (c : ℕ) → 0 < total axes → 0 < total (take (length axes - c) (drop c axes))
total_rest axes c h =
    let e : total axes ≡ total (take c axes) * total (drop c axes) =
    ap total (sym (take-append-drop c axes)) ∙ total-append (take c axes) (drop c axes) in
    rw (take_rest axes c) (head-some (total (take c axes)) (total (drop c axes)) (omega (arith, e))).1

-- ---- one by one

pub box-more : (axes : List ActiveAxis) (j : ℕ) → j < length axes
    → box (take (j + 1) axes) ≡ box (take j axes) * (2 * (get_or axes j no_axis).extent - 1)
unfolding product
box-more axes j h =
    ap box (take_more axes j no_axis h)
    ∙ box-append (take j axes) (get_or axes j no_axis ∷ [])
    ∙ ap (λ (n : ℕ). box (take j axes) * n) (omega arith)

extent_at : (axes : List ActiveAxis) (j : ℕ) → 0 < total axes → j < length axes → 0 < (get_or axes j no_axis).extent
unfolding product
extent_at [] j h l = absurd (omega arith)
extent_at (a ∷ rest) zero h l = (head-some a.extent (total rest) h).0
extent_at (a ∷ rest) (suc j) h l = extent_at rest j (head-some a.extent (total rest) h).1 (omega arith)

-- the first axes have vectors, and no more than all
box-front : (axes : List ActiveAxis) (c : ℕ) → 0 < total axes → (0 < box (take c axes)) × (box (take c axes) ≤ box axes)
box-front axes c h =
    let e : box axes ≡ box (take c axes) * box (drop c axes) =
    ap box (sym (take-append-drop c axes)) ∙ box-append (take c axes) (drop c axes) in
    let s = head-some (box (take c axes)) (box (drop c axes)) (omega (arith, e, box-some axes h)) in
    (s.0, grind (arith, ints))

-- one axis more, for a walk over them (the first part shows `grind` the call to match)
pub box_next : (axes : List ActiveAxis) (j : ℕ) → 0 < total axes → j < length axes
    → (take j axes ≡ take j axes) × (0 < (get_or axes j no_axis).extent) × (0 < box (take j axes))
    × (box (take (j + 1) axes) ≡ box (take j axes) * (2 * (get_or axes j no_axis).extent - 1)) × (box (take (j + 1) axes) ≤ box axes)
box_next axes j p h = (refl, extent_at axes j p h, (box-front axes j p).0, box-more axes j h, (box-front axes (j + 1) p).1)

-- for a walk that cuts the axes behind each
pub ruleset cuts = (box_next, total_rest)
