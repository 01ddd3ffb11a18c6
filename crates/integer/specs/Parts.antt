-- The two parts of an integer, as naturals: z is `positive_part z` less `negative_part z`, and one of the two is 0.
use Rattle.std.specs.Prelude.{suc, ℕ, negsuc, pos, ℤ}

-- z if z is not negative, else 0.
abbrev pub positive_part : ℤ → ℕ
positive_part (pos n) = n
positive_part (negsuc n) = 0

-- -z if z is negative, else 0.
abbrev pub negative_part : ℤ → ℕ
negative_part (pos n) = 0
negative_part (negsuc n) = suc n
