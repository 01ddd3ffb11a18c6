-- The normal form of a layout keeps the offsets, is canonical, and is where any order of dropping and merging ends: what NormalAxes, NormalCanonical and
-- NormalOrder prove of axes with no extent 0, for every layout. An empty layout has no position, and one normal form.
use mathlib.Core.Path.{◌≡◌, refl, sym, ap, subst, ◌∙◌}
use mathlib.Core.Bool.{Bool, true, false, ◌||◌}
use mathlib.Core.Logic.{◌↔◌}
use mathlib.Core.List.{List, [], ◌∷◌}
use Prim.Native.Nat.{ℕ, ◌*◌}
use native.Mathlib.Omega.{arith}
use lib.Dec.{T, eqb, eqb→eq}
use lib.IntN.{ℤ, pos, ◌+ℤ◌, ◌-ℤ◌, +ℤ_idr, +ℤ_comm, +ℤ-neg_ℤ_cancel}
use borrow.Author.Tests.{eqb-false}
use Rattle.specification.specs.Axis.{Axis, positions, product, sum_at, is_empty}
use Rattle.specification.specs.Layout.{LayoutModel}
use Rattle.specification.specs.Views.{with_axes}
use Rattle.specification.specs.Normal.{normal_axes, normal_of}
use Rattle.specification.specs.NormalClaims.{SameOffsets, SameForm, NormalClaims}
use Rattle.specification.proofs.NormalAxes.{AllPositive, none, more, Normal, normal-alike, normal-positive, normal-is-normal}
use Rattle.specification.proofs.NormalCanonical.{sum-at-zero}
use Rattle.specification.proofs.NormalOrder.{normal-canonical, normal-of-normal, any_order}
use Rattle.std.proofs.lemmas.Int.{ints}
pub use Rattle.specification.proofs.NormalAxes.{positions-pos}

-- ---- empty or not

-- not empty: no extent is 0
pub full-pos : (l : List Axis) → is_empty l ≡ false → AllPositive l
unfolding is_empty
full-pos [] e = none
full-pos (a ∷ r) e = go (eqb a.extent 0) refl e (full-pos r)
  where
    go : (t : Bool) → eqb a.extent 0 ≡ t → (t || is_empty r) ≡ false → (is_empty r ≡ false → AllPositive r) → AllPositive (a ∷ r)
    go true q f ih = absurd (subst T f tt)
    go false q f ih = let n : ¬ (a.extent ≡ 0) = eqb-false a.extent 0 q in more {a = a} (omega arith) (ih f)

-- empty: there is no position
pub empty-none : (l : List Axis) → is_empty l ≡ true → positions l ≡ 0
unfolding is_empty product
empty-none [] e = absurd (subst T (sym e) tt)
empty-none (a ∷ r) e = go (eqb a.extent 0) (eqb→eq a.extent 0) e (empty-none r)
  where
    go : (t : Bool) → (T t → a.extent ≡ 0) → (t || is_empty r) ≡ true → (is_empty r ≡ true → positions r ≡ 0) → a.extent * positions r ≡ 0
    go true q f ih = let z : a.extent ≡ 0 = q tt in omega (arith, ap (λ (k : ℕ). k * positions r) z)
    go false q f ih = omega (arith, ap (λ (k : ℕ). a.extent * k) (ih f))

-- ---- the two cases of the normal form

-- the axes of the normal form of an empty layout
abbrev pub empty_axes : List Axis
empty_axes = record { extent = 0; stride = pos 0 } ∷ []

-- of an empty layout
pub normal-of-empty : (l : LayoutModel) → is_empty l.axes ≡ true → normal_of l ≡ record { buffer = l.buffer; offset = pos 0; axes = empty_axes }
unfolding normal_of
normal-of-empty l e = rw e

-- of one that is not empty
pub normal_of_full : (l : LayoutModel) → is_empty l.axes ≡ false → normal_of l ≡ with_axes l (normal_axes l.axes)
unfolding normal_of
normal_of_full l e = rw e

-- the merged axes of a layout that is not empty are normal
pub normal_axes-normal : (l : List Axis) → is_empty l ≡ false → Normal (normal_axes l)
normal_axes-normal l e = normal-is-normal (full-pos l e)

-- axes that are normal are their own normal form
pub normal_axes-own : {l : List Axis} → Normal l → normal_axes l ≡ l
normal_axes-own {l} n = normal-of-normal (normal-positive n) n

-- ---- same offsets

-- said of x and y, it holds of y and x
pub same-sym : {x y : LayoutModel} → SameOffsets x y → SameOffsets y x
same-sym s = record { as_many = sym s.as_many; alike = λ k h. sym (s.alike k (rw s.as_many h)) }

-- and by way of a third layout
same-trans : {x y z : LayoutModel} → SameOffsets x y → SameOffsets y z → SameOffsets x z
same-trans s t = record { as_many = s.as_many ∙ t.as_many; alike = λ k h. s.alike k h ∙ t.alike k (rw (← s.as_many) h) }

-- equal but for the buffer length: the same offsets
same-form : {x y : LayoutModel} → SameForm x y → SameOffsets x y
same-form f = grind (arith, ints)

-- the normal form has the same offsets
pub normal-same : (l : LayoutModel) → SameOffsets (normal_of l) l
unfolding product
normal-same l = go (is_empty l.axes) refl
  where
    go : (t : Bool) → is_empty l.axes ≡ t → SameOffsets (normal_of l) l
    go true e = rw (normal-of-empty l e) (record { as_many = sym (empty-none l.axes e); alike = λ k h. absurd (omega arith) })
    go false e = let n = normal-alike l.axes in rw (normal_of_full l e) (record { as_many = n.count; alike = λ k h. ap (λ (z : ℤ). l.offset +ℤ z) (n.sums k) })

-- ---- canonical

-- offsets alike: the layout's own offset is the one at position 0, where the sum is 0; without it the sums are alike
canonical-full : (x y : LayoutModel) → AllPositive x.axes → AllPositive y.axes → SameOffsets x y → (x.offset ≡ y.offset) × (normal_axes x.axes ≡ normal_axes y.axes)
canonical-full x y hx hy s = (same_offset, normal-canonical hx hy s.as_many (λ k b. cancel (sum_at x.axes k) (sum_at y.axes k) (s.alike k b)))
  where
    same_offset : x.offset ≡ y.offset
    same_offset = sym (+ℤ_idr x.offset) ∙ ap (λ (z : ℤ). x.offset +ℤ z) (sym (sum-at-zero x.axes)) ∙ s.alike 0 (positions-pos hx) ∙ ap (λ (z : ℤ). y.offset +ℤ z) (sum-at-zero y.axes) ∙ +ℤ_idr y.offset

    cancel : (u v : ℤ) → x.offset +ℤ u ≡ y.offset +ℤ v → u ≡ v
    cancel u v q = sym (+ℤ-neg_ℤ_cancel u x.offset) ∙ ap (λ (z : ℤ). z -ℤ x.offset) (+ℤ_comm u x.offset ∙ q ∙ ap (λ (z : ℤ). z +ℤ v) (sym same_offset) ∙ +ℤ_comm x.offset v) ∙ +ℤ-neg_ℤ_cancel v x.offset

-- equal offsets have equal normal forms
canonical : (x y : LayoutModel) → SameOffsets x y → SameForm (normal_of x) (normal_of y)
canonical x y s = go (is_empty x.axes) (is_empty y.axes) refl refl
  where
    clash : (l m : List Axis) → is_empty l ≡ true → is_empty m ≡ false → positions l ≡ positions m → ⊥
    clash l m e f q = omega (arith, empty-none l e, positions-pos (full-pos m f))

    go : (t u : Bool) → is_empty x.axes ≡ t → is_empty y.axes ≡ u → SameForm (normal_of x) (normal_of y)
    go true true e f = rw (normal-of-empty x e, normal-of-empty y f) (record { same_offset = refl; same_axes = refl })
    go true false e f = absurd (clash x.axes y.axes e f s.as_many)
    go false true e f = absurd (clash y.axes x.axes f e (sym s.as_many))
    go false false e f = let c = canonical-full x y (full-pos x.axes e) (full-pos y.axes f) s in rw (normal_of_full x e, normal_of_full y f) (record { same_offset = c.0; same_axes = c.1 })

-- and unequal offsets have unequal ones
pub canonical-iff : (x y : LayoutModel) → SameForm (normal_of x) (normal_of y) ↔ SameOffsets x y
canonical-iff x y = (λ f. same-trans (same-sym (normal-same x)) (same-trans (same-form f) (normal-same y)), canonical x y)

-- ---- the claims

-- the buffer length stays
pub buffer-stays : (l : LayoutModel) → (normal_of l).buffer ≡ l.buffer
buffer-stays l = go (is_empty l.axes) refl
  where
    go : (t : Bool) → is_empty l.axes ≡ t → (normal_of l).buffer ≡ l.buffer
    go true e = ap (λ (x : LayoutModel). x.buffer) (normal-of-empty l e)
    go false e = ap (λ (x : LayoutModel). x.buffer) (normal_of_full l e)

-- all that is claimed of the normal form
pub normal_claims : NormalClaims
normal_claims = record { same = normal-same; same_buffer = buffer-stays; canonical = canonical-iff; any_order = λ l m e s. any_order (full-pos l e) s }
