-- A natural number times an integer.
use Rattle.std.specs.Prelude.{ℕ, ◌*ℤ◌, pos, ℤ}

-- k times s.
infixl 75 ◌·◌
unfoldable pub ◌·◌ : ℕ → ℤ → ℤ
k · s = pos k *ℤ s
