-- A product of extents, factor by factor, and what it says of the number of positions.
use Rattle.std.specs.List.{list_any}
use mathlib.Core.Path.{◌≡◌, refl, sym, ap, subst, ◌∙◌}
use mathlib.Core.Bool.{Bool, true, false, not, and-false}
use mathlib.Core.List.{List, [], ◌∷◌, map}
use Prim.Native.Nat.{ℕ, zero, suc, ◌+◌, ◌*◌, ◌-◌, ◌≤◌, ◌<◌}
use native.Mathlib.Nat.{zero-mul, mul-zero, mul-suc, mul-pos, mul_assoc}
use native.Mathlib.Numerals.{add-one}
use native.Mathlib.Omega.{arith}
use lib.Dec.{T}
use lib.ListN.{length, drop, get_or, drop_of_length-le}
use lib.Seq.{drop-cons}
use Rattle.std.proofs.lemmas.List.{length-map, get_or-map}
use borrow.Author.Tests.{lt-ltb, le-ltb}
use Rattle.integer.specs.Range.{most_unsigned}
use Rattle.specification.specs.Outcome.{done, refused, refuse_if, ◌>>◌}
use Rattle.specification.specs.Axis.{Axis, extents, product, is_empty}
use Rattle.specification.specs.Beside.{zero_among}
use Rattle.specification.specs.Normal.{overfull}
use Rattle.specification.specs.Views.{axis_at}
use Rattle.view.specs.Count.{element_count, count_of}
use Rattle.std.proofs.lemmas.Int.{ints}

-- ---- a product

pub product-drop : (es : List ℕ) (i : ℕ) → i < length es → product (drop i es) ≡ get_or es i 0 * product (drop (i + 1) es)
unfolding product
product-drop es i h = rw (add-one, drop-cons es i 0 h)

pub product-end : (es : List ℕ) (i : ℕ) → length es ≤ i → product (drop i es) ≡ 1
unfolding product
product-end es i h = rw (drop_of_length-le es h)

-- a turn: extent i goes from what is left to the product
pub product-turn : (es : List ℕ) (i count : ℕ) → i < length es → count * product (drop i es) ≡ product es
    → (count * get_or es i 0) * product (drop (i + 1) es) ≡ product es
product-turn es i count h e = mul_assoc count (get_or es i 0) (product (drop (i + 1) es)) ∙ ap (λ (n : ℕ). count * n) (sym (product-drop es i h)) ∙ e

product-zero : (es : List ℕ) → zero_among es ≡ true → product es ≡ 0
unfolding product
product-zero [] e = absurd (subst T (sym e) tt)
product-zero (n ∷ es) e = let rest = product-zero es in grind (arith, ints, zero-mul, mul-zero)

pub product-above : (es : List ℕ) → zero_among es ≡ false → 0 < product es
unfolding product
product-above [] e = omega arith
product-above (n ∷ es) e = let rest = product-above es in grind (arith, ints, mul-pos)

-- a factor on the way is at most the whole product, if that is not 0
pub factor-below : (factor rest whole most : ℕ) → factor * rest ≡ whole → 0 < whole → most < factor → most < whole
factor-below factor zero whole most e h k = omega (arith, mul-zero factor)
factor-below factor (suc rest) whole most e h k = omega (arith, mul-suc factor rest)

-- ---- the number of positions

pub empty_extents : (axes : List Axis) → is_empty axes ≡ zero_among (extents axes)
unfolding is_empty
empty_extents [] = refl
empty_extents (a ∷ rest) = rw (empty_extents rest)

-- what the extents come to at each end of the count
module _ (es : List ℕ) where
  pub count-many : 16 < length es → element_count es ≡ refused 1 []
  unfolding element_count refuse_if ◌>>◌
  count-many h = rw (lt-ltb 16 (length es) h)

  module _ (few : length es ≤ 16) where
    pub count-empty : zero_among es ≡ true → element_count es ≡ done 0
    unfolding element_count refuse_if ◌>>◌
    count-empty z = rw (le-ltb 16 (length es) few, z, product-zero es z)

    pub count-within : product es ≤ most_unsigned → element_count es ≡ done (product es)
    unfolding element_count refuse_if ◌>>◌
    count-within h = rw (le-ltb 16 (length es) few, le-ltb most_unsigned (product es) h, and-false (not (zero_among es)))

    pub count-over : zero_among es ≡ false → most_unsigned < product es → element_count es ≡ refused 8 []
    unfolding element_count refuse_if ◌>>◌
    count-over z h = rw (le-ltb 16 (length es) few, z, lt-ltb most_unsigned (product es) h)

-- ---- the count of axes

pub length-extents : (axes : List Axis) → length (extents axes) ≡ length axes
length-extents [] = refl
length-extents (a ∷ rest) = rw (length-extents rest)

-- of at most 16 axes it is that of their extents, whatever the strides
pub element-count-of-axes : (axes : List Axis) → length axes ≤ 16 → element_count (extents axes) ≡ count_of axes
unfolding element_count count_of overfull refuse_if ◌>>◌
element-count-of-axes axes few = grind (arith, ints, length-extents axes, empty_extents axes)

-- a test of what a list is mapped to
pub list_any-map : {A B : Type 0} (test : B → Bool) (f : A → B) (list : List A) → list_any (λ a. test (f a)) list ≡ list_any test (map f list)
list_any-map test f [] = refl
list_any-map test f (a ∷ list) = rw (list_any-map test f list)

-- what a list is mapped to is as long
pub length-each : {A : Type 0} (f : A → ℕ) (list : List A) (es : List ℕ) → es ≡ map f list → length es ≡ length list
length-each f list es e = ap length e ∙ length-map list f

-- and what stands at place i is of what stood there
pub extent-here : {A : Type 0} (f : A → ℕ) (list : List A) (es : List ℕ) (i : ℕ) (a : A) → es ≡ map f list → i < length list → a ≡ get_or list i a → get_or es i 0 ≡ f a
extent-here f list es i a e h k = ap (λ (m : List ℕ). get_or m i 0) e ∙ get_or-map f list i a 0 h ∙ ap f (sym k)

-- ---- the extents of axes, as a list of entries has them

extent-at : (axes : List Axis) (i : ℕ) → get_or (extents axes) i 0 ≡ (axis_at axes i).extent
extent-at [] i = refl
extent-at (a ∷ rest) zero = refl
extent-at (a ∷ rest) (suc i) = extent-at rest i

module _ {A : Type 0} (f : A → ℕ) (list : List A) (axes : List Axis) (es : List ℕ) (each : es ≡ map f list) (given : es ≡ extents axes) where
  pub entry-length : length axes ≡ length list
  entry-length = sym (length-extents axes) ∙ ap length (sym given) ∙ length-each f list es each

  pub entry-extent : (i : ℕ) (a : A) → i < length list → a ≡ get_or list i a → f a ≡ (axis_at axes i).extent
  entry-extent i a h k = sym (extent-here f list es i a each h k) ∙ ap (λ (m : List ℕ). get_or m i 0) given ∙ extent-at axes i

  -- the last index of an entry is that of its axis
  pub entry-last : (i : ℕ) (a : A) → i < length list → a ≡ get_or list i a → (extent last : ℕ) → extent ≡ f a → last ≡ extent - 1 → (i < length axes) × (last ≡ (axis_at axes i).extent - 1)
  entry-last i a h k extent last e m = (omega (arith, entry-length), omega (arith, entry-extent i a h k, e, m))
