-- A number with a limit, as the code answers it.
use Rattle.std.specs.Prelude.{ℕ, nat_le, if◌then◌else◌, None, Option, Some}

-- the number, if it is at most the limit
abbrev pub bounded_by : ℕ → ℕ → Option ℕ
bounded_by limit n = if nat_le n limit then Some n else None
