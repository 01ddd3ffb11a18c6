-- The equation that two axes come to.
use Rattle.std.specs.Prelude.{◌≡◌, ℕ, ◌+◌, ◌*◌, ◌≤◌}

-- u a + v b = c, for u up to mu and v up to mv.
pub record Solution (a b mu mv c : ℕ) : Type 0 where
  pub u : ℕ
  pub v : ℕ
  pub u_within : u ≤ mu
  pub v_within : v ≤ mv
  pub sum : u * a + v * b ≡ c
