-- The decimal number that bytes spell. Assumes nothing.
use Rattle.std.specs.Prelude.{not, ◌||◌, List, [], ◌∷◌, ℕ, ◌+◌, ◌-◌, ◌*◌, ◌^◌, ◌==◌, nat_lt, pos, neg_ℤ, length, if◌then◌else◌, None, Option, Some, option_and_then, ℤ}
use Rattle.std.specs.Char.{is_ascii_digit}
use Rattle.std.specs.List.{list_all}
use Rattle.integer.specs.Range.{checked_of}

-- the number that digits behind the digits of n spell with them
unfoldable pub spelled_from : ℕ → List ℕ → ℕ
spelled_from n [] = n
spelled_from n (byte ∷ rest) = spelled_from (n * 10 + (byte - 48)) rest

-- one digit or more, and a number below 2^64
unfoldable pub unsigned_of : List ℕ → Option ℕ
unsigned_of text =
    if length text == 0 || not (list_all is_ascii_digit text) then None
    else (if nat_lt (spelled_from 0 text) (2 ^ 64) then Some (spelled_from 0 text)
    else None)

-- `-` (45) stands in front of a negative number; 64 bits hold either
unfoldable pub signed_of : List ℕ → Option ℤ
signed_of [] = None
signed_of (first ∷ rest) =
    if first == 45 then option_and_then (λ n. checked_of (neg_ℤ (pos n))) (unsigned_of rest)
    else option_and_then (λ n. checked_of (pos n)) (unsigned_of (first ∷ rest))
