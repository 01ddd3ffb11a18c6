-- No root is above its axis, and each root is its own: as one more pair is tied.
use Rattle.std.specs.Prelude.{if◌then◌else◌}
use mathlib.Core.Path.{◌≡◌, refl, ap, ◌∙◌}
use mathlib.Core.Bool.{Bool, true, false}
use mathlib.Core.List.{List}
use Prim.Native.Nat.{ℕ, ◌≤◌, ◌<◌, max, min}
use native.Mathlib.Omega.{arith}
use lib.Dec.{eqb}
use lib.ListN.{length}
use Rattle.std.proofs.lemmas.List.{get_or-map}
use Rattle.view.specs.Ties.{root_at, renamed, joined, IsRooted}
use Rattle.std.proofs.lemmas.Int.{ints}

module _ (n : ℕ) (roots : List ℕ) (long : length roots ≡ 16) (few : n ≤ 16) (of : IsRooted n roots) (a b : ℕ) (within : max a b < n) where
  abbrev old : ℕ → ℕ
  old = root_at roots

  abbrev higher : ℕ
  higher = max (old a) (old b)

  abbrev lower : ℕ
  lower = min (old a) (old b)

  abbrev new : ℕ → ℕ
  new = root_at (joined roots (a, b))

  new-at : (x : ℕ) → x < n → new x ≡ renamed higher lower (old x)
  new-at x h = get_or-map (renamed higher lower) roots x 0 0 (omega (arith, long))

  lower-own : old lower ≡ lower
  lower-own = grind (arith, ints)

  renamed-lower : renamed higher lower lower ≡ lower
  renamed-lower = grind (arith, ints)

  pub joined_rooted : IsRooted n (joined roots (a, b))
  joined_rooted = record {
    low = λ x h. let was = of.low x h in rw (new-at x h) (grind (arith, ints));
    own = λ x h. rw (new-at x h) (owns x h (eqb (old x) higher) refl);
  }
    where
      owns : (x : ℕ) → x < n → (s : Bool) → eqb (old x) higher ≡ s → new (if s then lower else old x) ≡ (if s then lower else old x)
      owns x h true e = new-at lower (omega arith) ∙ ap (renamed higher lower) lower-own ∙ renamed-lower
      owns x h false e = new-at (old x) (omega (arith, of.low x h)) ∙ ap (renamed higher lower) (of.own x h) ∙ rw e refl
