-- Laws of the axes in an array: those of the first places, and one axis more.
use mathlib.Core.Path.{◌≡◌, refl, sym, ap, ◌∙◌}
use mathlib.Core.Bool.{Bool, not}
use mathlib.Core.List.{List, [], ◌∷◌, ◌++◌, append_assoc}
use Prim.Native.Nat.{ℕ, zero, suc, ◌+◌, ◌≤◌, ◌<◌, min}
use native.Mathlib.Numerals.{add-one}
use native.Mathlib.Omega.{arith}
use lib.IntN.{ℤ, pos}
use lib.ListN.{length, take, drop, set, get_or, length-append, length-take}
use lib.Seq.{drop-cons, ext_get_or, get_or-take, length-take-le, set-append_seam, get_or_at, take-append_seam}
use Rattle.std.specs.List.{list_any}
use Rattle.view.proofs.TableLaws.{get_or-table, length-table}
use Rattle.specification.specs.Axis.{Axis, axes_of_lists, extents}
use Rattle.specification.specs.CheckIn.{is_too_wide}
use Rattle.specification.specs.Views.{axis_at}
use Rattle.view.specs.Model.{first_axes}
use Rattle.view.specs.Reach.{none_wide}
use Rattle.std.proofs.lemmas.Int.{ints}

-- the first n axes of an array that has them
pub first_axes_take : (axes : List Axis) (n : ℕ) → n ≤ length axes → first_axes axes n ≡ take n axes
first_axes_take axes n h =
    let d : Axis = record { extent = 0; stride = pos 0 } in
    ext_get_or d (first_axes axes n) (take n axes) (length-table (axis_at axes) n ∙ sym (length-take-le n axes h))
    (λ i l. let b : i < n = omega (arith, length-table (axis_at axes) n) in get_or-table (axis_at axes) n i d b ∙ sym (get_or-take n axes i d b))

-- of an array of 16, whatever n is: the sixteen at most
pub first_sixteen : (axes : List Axis) (n : ℕ) → length axes ≡ 16 → take (min 16 n) axes ≡ take 16 (first_axes axes n)
first_sixteen axes n h =
    let d : Axis = record { extent = 0; stride = pos 0 } in
    let long = length-table (axis_at axes) n in
    ext_get_or d (take (min 16 n) axes) (take 16 (first_axes axes n)) (length-take-le (min 16 n) axes (omega arith) ∙ sym (length-take 16 (first_axes axes n) ∙ ap (min 16) long))
    (λ i l.
    let b : (i < min 16 n) × (i < 16) × (i < n) = omega (arith, length-take-le (min 16 n) axes (omega arith)) in
    get_or-take (min 16 n) axes i d b.0 ∙ sym (get_or-take 16 (first_axes axes n) i d b.1 ∙ get_or-table (axis_at axes) n i d b.2))

pub length_first_axes : (axes : List Axis) (n : ℕ) → length (first_axes axes n) ≡ n
length_first_axes axes n = length-table (axis_at axes) n

-- a store at the seam of a front and what was behind it
pub set-seam : (front old : List Axis) (i : ℕ) (a : Axis) → length front ≡ i → i < length old
    → set (front ++ drop i old) i a ≡ (front ++ a ∷ []) ++ drop (i + 1) old
set-seam front old i a e h =
    rw (add-one, drop-cons old i a h, ← e, set-append_seam) (sym (append_assoc front (a ∷ []) (drop (suc (length front)) old)))

-- one axis more of two lists
axes_of_lists-suc : (es : List ℕ) (ss : List ℤ) (i : ℕ) → i < length es → i < length ss
    → axes_of_lists (take (suc i) es) (take (suc i) ss) ≡ axes_of_lists (take i es) (take i ss) ++ record { extent = get_or es i 0; stride = get_or ss i (pos 0) } ∷ []
unfolding axes_of_lists
axes_of_lists-suc [] ss i h k = absurd (omega arith)
axes_of_lists-suc (e ∷ es) [] i h k = absurd (omega arith)
axes_of_lists-suc (e ∷ es) (s ∷ ss) zero h k = refl
axes_of_lists-suc (e ∷ es) (s ∷ ss) (suc i) h k = ap (λ (axes : List Axis). record { extent = e; stride = s } ∷ axes) (axes_of_lists-suc es ss i (omega arith) (omega arith))

pub axes_of_lists-more : (es : List ℕ) (ss : List ℤ) (i : ℕ) → i < length es → i < length ss
    → axes_of_lists (take (i + 1) es) (take (i + 1) ss) ≡ axes_of_lists (take i es) (take i ss) ++ record { extent = get_or es i 0; stride = get_or ss i (pos 0) } ∷ []
axes_of_lists-more es ss i h k = rw add-one (axes_of_lists-suc es ss i h k)

-- ---- tests of axes as chains ask them

pub any-list_any : {A : Type 0} (test : A → Bool) (l : List A) → list_any test l ≡ list_any test l
any-list_any test l = grind (arith, ints)

-- no extent is wide if no axis is
pub none-wide : (axes : List Axis) → none_wide (extents axes) ≡ not (list_any is_too_wide axes)
none-wide [] = refl
none-wide (a ∷ axes) = let rest = none-wide axes in grind (arith, ints)

-- a store at the seam that leaves what was there
pub same-seam : (front old : List Axis) (i : ℕ) (d : Axis) → i < length old → front ++ drop i old ≡ (front ++ get_or old i d ∷ []) ++ drop (i + 1) old
same-seam front old i d h = rw (add-one, drop-cons old i d h) (sym (append_assoc front (get_or old i d ∷ []) (drop (suc i) old)))

-- what stands at the seam
pub get_or-seam : (front old : List Axis) (i : ℕ) (d : Axis) → length front ≡ i → i < length old → get_or (front ++ drop i old) i d ≡ get_or old i d
get_or-seam front old i d e h = rw (drop-cons old i d h) (get_or_at front (get_or old i d) (drop (suc i) old) d i e)

-- as many axes as stand before a seam
pub first_axes-front : (front rest : List Axis) (n : ℕ) → length front ≡ n → first_axes (front ++ rest) n ≡ front
first_axes-front front rest n e =
    first_axes_take (front ++ rest) n (omega (arith, e, length-append front rest)) ∙ rw (← e) (take-append_seam front rest)

pub axes_of_lists-none : axes_of_lists [] [] ≡ []
unfolding axes_of_lists
axes_of_lists-none = refl

pub length-axes_of_lists : (es : List ℕ) (ss : List ℤ) → length es ≡ length ss → length (axes_of_lists es ss) ≡ length es
unfolding axes_of_lists
length-axes_of_lists [] ss h = refl
length-axes_of_lists (e ∷ es) [] h = absurd (omega arith)
length-axes_of_lists (e ∷ es) (s ∷ ss) h = let r = length-axes_of_lists es ss (omega arith) in omega arith

-- ---- axes in two lists

pub length_lists : (es : List ℕ) (ss : List ℤ) → length ss ≡ length es → length (axes_of_lists es ss) ≡ length es
length_lists es ss h = length-axes_of_lists es ss (sym h)

pub extents_axes_of_lists : (es : List ℕ) (ss : List ℤ) → length ss ≡ length es → extents (axes_of_lists es ss) ≡ es
unfolding axes_of_lists
extents_axes_of_lists [] ss h = refl
extents_axes_of_lists (e ∷ es) [] h = absurd (omega arith)
extents_axes_of_lists (e ∷ es) (s ∷ ss) h = rw (extents_axes_of_lists es ss (omega arith))

pub stride_axes_of_lists : (es : List ℕ) (ss : List ℤ) (i : ℕ) → length ss ≡ length es → i < length es → (axis_at (axes_of_lists es ss) i).stride ≡ get_or ss i (pos 0)
unfolding axes_of_lists
stride_axes_of_lists [] ss i h k = absurd (omega arith)
stride_axes_of_lists (e ∷ es) [] i h k = absurd (omega arith)
stride_axes_of_lists (e ∷ es) (s ∷ ss) zero h k = refl
stride_axes_of_lists (e ∷ es) (s ∷ ss) (suc i) h k = stride_axes_of_lists es ss i (omega arith) (omega arith)
