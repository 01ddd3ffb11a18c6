-- Numbers above 0 among words, of which 0 is free. A number stands at its home, one of the first `homes` words, or behind it
-- with no free word between.
use Rattle.std.specs.Prelude.{List, ◌≢◌, ◌≡◌, refl, ℕ, ◌+◌, ◌*◌, ◌/◌, ◌%◌, ◌<◌, ◌≤◌, Bool, ◌==◌, length, drop, count_by, slice_index}
use Rattle.std.specs.Ordering.{nat_cmp}
use Rattle.std.specs.FinSet.{FinSet, from_list, remove, code}
use Rattle.std.specs.Coded.{Coded, code_by, coded×, coded_ℕ}

-- what a table of numbers is to its callers: the numbers that it holds, and for how many more there is room
pub record Held : Type 0 where
  pub numbers : FinSet nat_cmp
  pub room : ℕ

-- stored as the pair of both
abbrev pub held_code : Coded Held
held_code = code_by (FinSet nat_cmp × ℕ) (coded× (code coded_ℕ) coded_ℕ)
    (λ h. (h.numbers, h.room)) (λ p. record { numbers = p.0; room = p.1 }) (λ _. refl)

-- the numbers among words
abbrev pub numbers_in : List ℕ → FinSet nat_cmp
numbers_in words = remove (from_list words) 0

abbrev pub is_free : ℕ → Bool
is_free word = word == 0

-- how many words behind the homes are free
abbrev pub free_behind : ℕ → List ℕ → ℕ
free_behind homes words = count_by is_free (drop homes words)

-- the home of a number: any would do, this one spreads numbers that lie in a pattern
unfoldable pub home_of : ℕ → ℕ → ℕ
home_of homes n = (n % 4294967296 * 2654435769 + n / 4294967296 * 1597334677) / 65536 % 4294967296 * 2246822519 / 65536 % homes

-- the number n stands at the place
abbrev pub IsNumberAt : List ℕ → ℕ → ℕ → Type 0
IsNumberAt words n place = (n ≢ 0) × (slice_index words place ≡ n)

-- a look for n from its home on comes to the place: no word before it is free
pub record IsReached (homes : ℕ) (words : List ℕ) (n place : ℕ) : Type 0 where
  pub from : home_of homes n ≤ place
  pub taken : (k : ℕ) → home_of homes n ≤ k → k < place → slice_index words k ≢ 0

-- the first free word from the home of n on, or the end of the words; n does not stand before it
pub record IsPlaceFor (homes : ℕ) (words : List ℕ) (n place : ℕ) : Type 0 where
  pub reached : IsReached homes words n place
  pub within : place ≤ length words
  pub free : slice_index words place ≡ 0
  pub missed : (k : ℕ) → home_of homes n ≤ k → k < place → slice_index words k ≢ n

-- each number is at most `most`, and a look for it comes to it
pub record IsPlaced (homes : ℕ) (words : List ℕ) (most : ℕ) : Type 0 where
  pub some : 0 < homes
  pub within : homes ≤ length words
  pub low : (i : ℕ) → slice_index words i ≤ most
  pub reached : (i : ℕ) → slice_index words i ≢ 0 → IsReached homes words (slice_index words i) i
