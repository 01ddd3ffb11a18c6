-- Copies of the places of some front axes, from each position of the others on: one more of these.
use Rattle.std.proofs.Common.{◌≡◌, sym, ap, ◌∙◌, ℕ, ◌+◌, ◌*◌, ◌<◌, List, [], ◌∷◌, ◌++◌, ℤ, mul-le-mul_left, arith}
use Rattle.specification.specs.Axis.{Axis, positions, product}
use Rattle.positions.specs.Positions.{place_at, IsPlacedIn}
use Rattle.positions.proofs.RunLaws.{place-front}
use Rattle.copying.specs.Copy.{copies}
use Rattle.copying.proofs.CopiesLaws.{copies-same, copies-split}

pub positions-front : (xs ys : List Axis) → positions (xs ++ ys) ≡ positions xs * positions ys
unfolding product
positions-front [] ys = omega arith
positions-front (a ∷ xs) ys = omega (arith, ap (λ (n : ℕ). a.extent * n) (positions-front xs ys))

-- the front axes at position r of the others are in a list that has all places
pub front-placed : (start : ℕ) (xs ys : List Axis) (size r place : ℕ) → IsPlacedIn start (xs ++ ys) size → r < positions ys → place ≡ place_at start ys r → IsPlacedIn place xs size
front-placed start xs ys size r place f h p k i =
    rw (p, ← place-front start xs ys r k i) (f (k + positions xs * r) (rw (positions-front xs ys) (omega (arith, i, mul-le-mul_left (positions xs) h))))

-- copies of the front axes at one position more of the others
pub copies-front : (s d : ℕ) (xs xs' ys ys' : List Axis) (from : List ℤ) (r : ℕ) (to : List ℤ) → positions xs' ≡ positions xs
    → copies (place_at (place_at s ys r) xs) (place_at (place_at d ys' r) xs') from (positions xs) (copies (place_at s (xs ++ ys)) (place_at d (xs' ++ ys')) from (positions xs * r) to)
    ≡ copies (place_at s (xs ++ ys)) (place_at d (xs' ++ ys')) from (positions xs * (r + 1)) to
copies-front s d xs xs' ys ys' from r to e =
    let m = positions xs in
    let n : m * (r + 1) ≡ m + m * r = omega arith in
    let f = place_at s (xs ++ ys) in
    let g = place_at d (xs' ++ ys') in
    rw n (
    copies-same _ (λ i. f (i + m * r)) _ (λ i. g (i + m * r)) from m _
    (λ i h. sym (place-front s xs ys r i h))
    (λ i h. sym (ap (λ (x : ℕ). g (i + x * r)) (sym e) ∙ place-front d xs' ys' r i (omega (arith, e, h))))
    ∙ sym (copies-split f g from (m * r) m to)
    )
