-- Axes that read alike have equal normal forms, and any order of dropping and merging ends in the normal form:
-- each step keeps what is read, and if no step is left the list is normal.
use mathlib.Core.Path.{◌≡◌, sym, ◌∙◌}
use mathlib.Core.List.{List, [], ◌∷◌}
use Prim.Native.Nat.{ℕ, ◌<◌}
use native.Mathlib.Nat.{mul-pos}
use native.Mathlib.Omega.{arith}
use Rattle.specification.specs.Axis.{Axis, positions, sum_at}
use Rattle.specification.specs.Normal.{both, normal_axes}
use Rattle.specification.specs.NormalClaims.{Step, Steps, dropped, merged, further, ended, next}
use Rattle.specification.proofs.NormalAxes.{ReadsAlike, alike_refl, alike-trans, alike-more, alike-dropped, alike-merged, normal-alike, AllPositive, none, more, Apart, Normal, normal-is-normal}
use Rattle.specification.proofs.NormalCanonical.{canonical-axes}

-- ---- equal normal forms

-- as many positions, and the same sum at each of them
pub normal-canonical : {l m : List Axis} → AllPositive l → AllPositive m → positions l ≡ positions m → ((k : ℕ) → k < positions l → sum_at l k ≡ sum_at m k) → normal_axes l ≡ normal_axes m
normal-canonical {l} {m} pl pm e f =
    let nl = normal-alike l in
    let nm = normal-alike m in
    canonical-axes (normal-is-normal pl) (normal-is-normal pm) (nl.count ∙ e ∙ sym nm.count) (λ k h. nl.sums k ∙ f k (rw (← nl.count) h) ∙ sym (nm.sums k))

-- a normal list that reads like a list is its normal form
pub normal-of-alike : {l m : List Axis} → AllPositive l → Normal m → ReadsAlike m l → m ≡ normal_axes l
normal-of-alike {l} p n w = let v = normal-alike l in canonical-axes n (normal-is-normal p) (w.count ∙ sym v.count) (λ k h. w.sums k ∙ sym (v.sums k))

-- a normal list is its own normal form
pub normal-of-normal : {l : List Axis} → AllPositive l → Normal l → normal_axes l ≡ l
normal-of-normal p n = sym (normal-of-alike p n alike_refl)

-- ---- any order

-- a step leaves no extent 0
step-positive : {l m : List Axis} → Step l m → AllPositive l → AllPositive m
step-positive (dropped e) (more h t) = t
step-positive (merged {a} {b} e) (more h (more k t)) = more {a = both a b} (mul-pos h k) t
step-positive (further s) (more h t) = more h (step-positive s t)

-- and keeps what is read
step-alike : {l m : List Axis} → Step l m → ReadsAlike m l
step-alike (dropped {a} {rest} e) = alike-dropped a rest e
step-alike (merged {a} {b} {rest} e) = alike-merged a b rest e
step-alike (further {a} s) = alike-more a (step-alike s)

-- no step left
ended-normal : {l : List Axis} → AllPositive l → ((m : List Axis) → ¬ (Step l m)) → Normal l
ended-normal none f = none
ended-normal (more {a} {r} h t) f =
    let ne : ¬ (a.extent ≡ 1) = λ e. f r (dropped e) in
    more {a = a} (omega arith) (apart r f) (ended-normal t (λ m s. f (a ∷ m) (further s)))
  where
    apart : (r : List Axis) → ((m : List Axis) → ¬ (Step (a ∷ r) m)) → Apart a r
    apart [] f = tt
    apart (b ∷ r) f = λ e. f (both a b ∷ r) (merged e)

-- what steps end in
record Ends (l m : List Axis) : Type 0 where
  is_normal : Normal m
  alike : ReadsAlike m l

-- they end in a normal list that reads like the first
steps-end : {l m : List Axis} → AllPositive l → Steps l m → Ends l m
steps-end p (ended f) = record { is_normal = ended-normal p f; alike = alike_refl }
steps-end p (next s t) = let e = steps-end (step-positive s p) t in record { is_normal = e.is_normal; alike = alike-trans e.alike (step-alike s) }

-- which is the normal form
pub any_order : {l m : List Axis} → AllPositive l → Steps l m → m ≡ normal_axes l
any_order p s = let e = steps-end p s in normal-of-alike p e.is_normal e.alike
