-- What an answer with a limit is, and what it says.
use Rattle.std.specs.Prelude.{None, Option, Some}
use mathlib.Core.Path.{◌≡◌}
use Prim.Native.Nat.{ℕ, ◌≤◌, ◌<◌}
use native.Mathlib.Omega.{arith}
use Rattle.view.specs.Bounded.{bounded_by}
use Rattle.std.proofs.lemmas.Int.{ints}

-- what an answer says of the number
pub is-bounded : {r : Option ℕ} (limit n x : ℕ) → r ≡ bounded_by limit n → r ≡ Some x → (x ≡ n) × (n ≤ limit)
is-bounded limit n x e k = grind (arith, ints)

pub over-bounded : {r : Option ℕ} (limit n : ℕ) → r ≡ bounded_by limit n → r ≡ None → limit < n
over-bounded limit n e k = grind (arith, ints)
