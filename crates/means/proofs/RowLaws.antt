-- Means one after another, and row after row.
use Rattle.std.proofs.Common.{Bool, true, false, ◌≡◌, refl, sym, ap, ◌∙◌, ℕ, zero, suc, ◌+◌, ◌*◌, ◌%◌, ◌^◌, ◌<◌, ◌≤◌, List, [], ◌∷◌, ◌++◌, map, ℤ, length, set, take, drop, ◌-◌, mul-le-mul_left, arith}
use Rattle.std.specs.List.{range_with_len}
use Rattle.std.proofs.lemmas.List.{take_more_set, append_assoc, append-nil, length-take, length-take-le, length-drop, take_all}
use Rattle.std.proofs.lemmas.List.FromFn.{map-range_with_len_more, length-map-range_with_len}
use Rattle.std.proofs.lemmas.Slice.{take-put_mid}
use borrow.Rule.Slice.PartMut.{put_mid}
use Rattle.std.proofs.lemmas.Int.{ints}
use Rattle.specification.specs.Axis.{Axis, positions, product}
use Rattle.specification.specs.Views.{axis_at}
use Rattle.positions.specs.Positions.{IsWalkable, place_at, words_at}

-- one mean more in front
pub mean-more : (f : ℕ → ℤ) (out : List ℤ) (k : ℕ) (mean : ℤ) → k < length out → take k out ≡ map f (range_with_len 0 k) → mean ≡ f k
    → take (k + 1) (set out k mean) ≡ map f (range_with_len 0 (k + 1))
mean-more f out k mean h e m =
    take_more_set out k mean h ∙ ap (λ z. z ++ mean ∷ []) e ∙ ap (λ x. map f (range_with_len 0 k) ++ x ∷ []) m ∙ sym (map-range_with_len_more f 0 k k (omega arith))

-- a row of n behind the first a
pub joined : (f g : ℕ → ℤ) (a n : ℕ) → ((i : ℕ) → i < n → g i ≡ f (i + a)) → map f (range_with_len 0 a) ++ map g (range_with_len 0 n) ≡ map f (range_with_len 0 (a + n))
joined f g a zero e = append-nil (map f (range_with_len 0 a)) ∙ ap (λ (n : ℕ). map f (range_with_len 0 n)) (omega arith)
joined f g a (suc n) e =
    let front = map f (range_with_len 0 a) in
    let z : suc n ≡ 0 + suc n = omega arith in
    ap (λ z. front ++ z) (ap (λ (m : ℕ). map g (range_with_len 0 m)) z ∙ one-more g 0 n (omega arith))
    ∙ sym (append_assoc front (map g (range_with_len 0 n)) (g n ∷ []))
    ∙ ap (λ z. z ++ g n ∷ []) (joined f g a n (λ i h. e i (omega arith)))
    ∙ ap (λ x. map f (range_with_len 0 (a + n)) ++ x ∷ []) (e n (omega arith) ∙ ap f (omega arith))
    ∙ sym (one-more f a n refl)
  where
    one-more : (f : ℕ → ℤ) (a n : ℕ) {k : ℕ} → k ≡ a + n → map f (range_with_len 0 (a + suc n)) ≡ map f (range_with_len 0 k) ++ f k ∷ []
    one-more f a n {k} e = ap (λ (m : ℕ). map f (range_with_len 0 m)) (omega (arith, e)) ∙ map-range_with_len_more f 0 k k (omega arith)

pub row-more : (f g : ℕ → ℤ) (out row : List ℤ) (a k n : ℕ) → ((i : ℕ) → i < n → g i ≡ f (i + a)) → a ≤ length out → take a out ≡ map f (range_with_len 0 a) → row ≡ map g (range_with_len 0 n)
    → take (a + n) (put_mid a k out row) ≡ map f (range_with_len 0 (a + n))
row-more f g out row a k n e h t r =
    take-put_mid a k out row (a + n) (omega (arith, ap length r, length-map-range_with_len g 0 n)) h ∙ rw (t, r) (joined f g a n e)

-- the part of the output that a row is written to is as long as the row
pub part-length : (out : List ℤ) (a n : ℕ) → a + n ≤ length out → length (take (a + n - a) (drop a out)) ≡ n
part-length out a n h = omega (arith, length-take-le (a + n - a) (drop a out) (omega (arith, h, length-drop a out)))

-- ---- the rows of an axis, one at each position of the others

pub row-end : (row : Axis) (others : List Axis) (size done r : ℕ) → size ≡ positions (row ∷ others) → done ≡ row.extent * r → r < positions others → done + row.extent ≤ size
unfolding product
row-end row others size done r s d h = omega (arith, s, d, mul-le-mul_left row.extent h)

pub row-within : (row : Axis) (others : List Axis) {i r : ℕ} → i < row.extent → r < positions others → i + row.extent * r < positions (row ∷ others)
unfolding product
row-within row others {i} {r} k h = omega (arith, k, mul-le-mul_left row.extent h)

-- if the output goes on, the walk has gone on
pub next-row : (row : Axis) (others axes : List Axis) (size done r next : ℕ) {more : Bool} → size ≡ positions (row ∷ others) → done ≡ row.extent * r
    → axes ≡ others → (more ≡ true → next ≡ r + 1) → (more ≡ false → r + 1 ≡ positions axes) → done + row.extent < size → done + row.extent ≡ row.extent * next
unfolding product
next-row row others axes size done r next {more = true} s d e on last h = rw (on refl) (omega (arith, d))
next-row row others axes size done r next {more = false} s d e on last h = absurd (omega (arith, s, d, h, ap (λ (n : ℕ). row.extent * n) (last refl ∙ ap positions e)))

-- the front is all
pub all-means : (f : ℕ → ℤ) (out : List ℤ) (done size : ℕ) → length out ≡ size → ¬ (done < length out) → take done out ≡ map f (range_with_len 0 done) → out ≡ map f (range_with_len 0 size)
all-means f out done size l h t =
    let n : done ≡ size = omega (arith, l, h, ap length t, length-map-range_with_len f 0 done, length-take done out) in
    sym (take_all done out (omega (arith, n, l))) ∙ t ∙ ap (λ (k : ℕ). map f (range_with_len 0 k)) n

-- ---- the axes that remain

pub front-axis : (rest : List Axis) → 1 ≤ length rest → IsWalkable rest → (0 < (axis_at rest 0).extent) × IsWalkable (take (length rest - 1) (drop 1 rest))
unfolding product
front-axis [] h w = absurd (omega arith)
front-axis (a ∷ rest) h w =
    let e : take (length (a ∷ rest) - 1) rest ≡ rest = take_all (length (a ∷ rest) - 1) rest (omega arith) in
    let some : 0 < a.extent * positions rest = w.some in
    (grind (arith, ints, some), rw e (record { few = omega (arith, w.few); some = grind (arith, ints, some) }))

-- if none remains, there is one mean, at the place of the first reading
module _ (rest : List Axis) (none : length rest < 1) (start : ℕ) (fits : start < 2 ^ 64) where
  pub lone-place : place_at start rest 0 ≡ start
  unfolding place_at words_at
  lone-place = go rest none
    where
      go : (rest : List Axis) → length rest < 1 → (start + words_at rest 0) % 2 ^ 64 ≡ start
      go [] h = omega (arith, fits)
      go (a ∷ more) h = absurd (omega (arith, h))

  pub lone-positions : positions rest ≡ 1
  unfolding product
  lone-positions = go rest none
    where
      go : (rest : List Axis) → length rest < 1 → positions rest ≡ 1
      go [] h = refl
      go (a ∷ more) h = absurd (omega (arith, h))

pub lone-mean : (f : ℕ → ℤ) (out : List ℤ) (mean : ℤ) → length out ≡ 1 → mean ≡ f 0 → set out 0 mean ≡ map f (range_with_len 0 (length out))
lone-mean f [] mean l e = absurd (omega (arith, l))
lone-mean f (x ∷ []) mean l e = ap (λ (z : ℤ). z ∷ []) e
lone-mean f (x ∷ y ∷ more) mean l e = absurd (omega (arith, l))
