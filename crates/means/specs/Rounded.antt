-- A quotient rounded to the nearest whole number, halves away from zero. RULES, "Means along an axis".
use Rattle.std.specs.Prelude.{ℕ, suc, ◌+◌, ◌*◌, ◌/◌, ℤ, pos, negsuc, neg_ℤ}

-- s divided by n, which is above 0 (`negsuc k` is -(k + 1))
unfoldable pub rounded : ℤ → ℕ → ℤ
rounded (pos s) n = pos ((2 * s + n) / (2 * n))
rounded (negsuc k) n = neg_ℤ (pos ((2 * suc k + n) / (2 * n)))
