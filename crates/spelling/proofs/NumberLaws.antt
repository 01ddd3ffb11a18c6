-- Digits read one by one: what is spelled so far, with what is left, spells the whole.
use Rattle.std.proofs.Common.{◌≡◌, ℕ, ◌+◌, ◌-◌, ◌*◌, ◌^◌, ◌≤◌, ◌<◌, List, [], ◌∷◌, length, get_or, drop, Option, None, Bool, true, false, cond, refl, add-one, arith}
use Rattle.std.specs.Prelude.{not, ◌||◌, ◌==◌}
use Rattle.std.specs.Char.{is_ascii_digit}
use Rattle.std.specs.List.{list_all}
use borrow.Author.Tests.{le-ltb}
use lib.ListN.{drop_of_length-le}
use lib.Seq.{drop-cons}
use Rattle.spelling.specs.Number.{spelled_from, unsigned_of}

-- what is spelled never falls
spelled-least : (n : ℕ) (text : List ℕ) → n ≤ spelled_from n text
unfolding spelled_from
spelled-least n [] = omega arith
spelled-least n (byte ∷ rest) = omega (arith, spelled-least (n * 10 + (byte - 48)) rest)

module _ (text : List ℕ) (i n : ℕ) where
  -- the digit at place i is spelled behind those of n
  pub spelled_on : i < length text → spelled_from n (drop i text) ≡ spelled_from (n * 10 + (get_or text i 0 - 48)) (drop (i + 1) text)
  unfolding spelled_from
  spelled_on h = rw (add-one, drop-cons text i 0 h)

  pub spelled_end : length text ≤ i → spelled_from n (drop i text) ≡ n
  unfolding spelled_from
  spelled_end h = rw (drop_of_length-le text h)

  -- digits that pass 2^64 pass it for good
  pub unsigned_over : i < length text → spelled_from 0 text ≡ spelled_from n (drop i text) → 2 ^ 64 ≤ n * 10 + (get_or text i 0 - 48) → unsigned_of text ≡ None
  unfolding unsigned_of
  unsigned_over h so_far over =
      let past : 2 ^ 64 ≤ spelled_from 0 text = omega (arith, so_far, spelled_on h, spelled-least (n * 10 + (get_or text i 0 - 48)) (drop (i + 1) text)) in
      rw (le-ltb _ _ past) (by_test (length text == 0 || not (list_all is_ascii_digit text)))
    where
      by_test : (b : Bool) → cond {A = Option ℕ} b None None ≡ None
      by_test true = refl
      by_test false = refl
