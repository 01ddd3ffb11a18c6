-- The numbers below n that pass a test: one number more, tests that agree, how many there are, a table of them, and a second test.
use Rattle.std.specs.List.{list_any, range_with_len}
use Rattle.std.specs.Prelude.{if◌then◌else◌, filter}
use mathlib.Core.Path.{◌≡◌, refl, sym, ap, ◌∙◌}
use mathlib.Core.Bool.{Bool, true, false}
use mathlib.Core.List.{List, [], ◌∷◌, ◌++◌, map, append-nil, map-append}
use Prim.Native.Nat.{ℕ, zero, suc, ◌+◌, ◌-◌, ◌≤◌, ◌<◌}
use native.Mathlib.Omega.{arith}
use lib.ListN.{length, length-append}
use Rattle.std.proofs.lemmas.Int.{ints}
use Rattle.std.proofs.lemmas.List.FromFn.{filter_of_map_range_with_len_more}
use Rattle.view.specs.Count.{map_same}
use Rattle.view.specs.Table.{table}
use Rattle.view.proofs.TableLaws.{table-zero, table-suc}
use Rattle.view.proofs.OrderLaws.{list_any-snoc}

-- the numbers below n that pass
unfoldable pub passing : (ℕ → Bool) → ℕ → List ℕ
passing test n = filter test (range_with_len 0 n)

-- ---- one number more

module _ (test : ℕ → Bool) (n : ℕ) where
  passing-last : passing test (n + 1) ≡ passing test n ++ (if test n then n ∷ [] else [])
  unfolding passing
  passing-last =
      ap (filter test) (map_same (range_with_len 0 (n + 1)))
      ∙ filter_of_map_range_with_len_more test (λ k. k) 0 n n (omega arith)
      ∙ ap (λ (l : List ℕ). filter test l ++ (if test n then n ∷ [] else [])) (sym (map_same (range_with_len 0 n)))

  pub passing-yes : test n ≡ true → passing test (n + 1) ≡ passing test n ++ (n ∷ [])
  passing-yes e = passing-last ∙ rw e

  pub passing-no : test n ≡ false → passing test (n + 1) ≡ passing test n
  passing-no e = passing-last ∙ rw (e, append-nil)

pub passing-zero : (test : ℕ → Bool) → passing test 0 ≡ []
unfolding passing
passing-zero test = refl

-- tests that agree below n
pub passing-ext : (f g : ℕ → Bool) (n : ℕ) → ((k : ℕ) → k < n → f k ≡ g k) → passing f n ≡ passing g n
passing-ext f g zero h = passing-zero f ∙ sym (passing-zero g)
passing-ext f g (suc n) h =
    let e : suc n ≡ n + 1 = omega arith in
    rw (e, passing-last f n, passing-last g n, h n (omega arith), passing-ext f g n (λ k l. h k (omega arith)))

-- ---- how many

abbrev pub count : (ℕ → Bool) → ℕ → ℕ
count test n = length (passing test n)

module _ (test : ℕ → Bool) where
  pub count_yes : (n : ℕ) → test n ≡ true → count test (n + 1) ≡ count test n + 1
  count_yes n e = ap length (passing-yes test n e) ∙ length-append (passing test n) (n ∷ [])

  pub count_no : (n : ℕ) → test n ≡ false → count test (n + 1) ≡ count test n
  count_no n e = ap length (passing-no test n e)

  count-step : (n : ℕ) → (count test n ≤ count test (n + 1)) × (count test (n + 1) ≤ count test n + 1)
  count-step n = grind (arith, ints, count_yes n, count_no n)

  -- more numbers, no fewer that pass
  count-le : (m d : ℕ) → count test m ≤ count test (m + d)
  count-le m zero = let e : m + 0 ≡ m = omega arith in rw e (omega arith)
  count-le m (suc d) = let e : m + suc d ≡ (m + d) + 1 = omega arith in rw e (omega (arith, count-le m d, count-step (m + d)))

  -- as many as there are numbers at most
  pub count_most : (n : ℕ) → count test n ≤ n
  count_most zero = omega (arith, ap length (passing-zero test))
  count_most (suc n) = let e : suc n ≡ n + 1 = omega arith in rw e (omega (arith, count_most n, count-step n))

  -- a number that passes counts for every number above it
  pub count-lt : (m n : ℕ) → m < n → test m ≡ true → count test m < count test n
  count-lt m n h e = let q : n ≡ (m + 1) + (n - (m + 1)) = omega arith in rw q (omega (arith, count_yes m e, count-le (m + 1) (n - (m + 1))))

-- ---- a table of the numbers that pass

-- each number that passes has its entry at the place counted for it
pub table-passing : {A : Type 0} (test : ℕ → Bool) (f g : ℕ → A) (n : ℕ) → ((k : ℕ) → k < n → test k ≡ true → f (count test k) ≡ g k)
    → table (count test n) f ≡ map g (passing test n)
table-passing test f g zero h = rw (passing-zero test) (table-zero f)
table-passing test f g (suc n) h =
    let e : suc n ≡ n + 1 = omega arith in
    let ih = table-passing test f g n (λ k l. h k (omega arith)) in
    rw e (grind (arith, ints, count_yes test n, count_no test n, passing-yes test n, passing-no test n, map-append g (passing test n) (n ∷ []), table-suc f (count test n), h n))

-- functions that agree if the test passes
pub map-passing : {A : Type 0} (test : ℕ → Bool) (f g : ℕ → A) (n : ℕ) → ((k : ℕ) → k < n → test k ≡ true → f k ≡ g k) → map f (passing test n) ≡ map g (passing test n)
map-passing test f g zero h = rw (passing-zero test)
map-passing test f g (suc n) h =
    let e : suc n ≡ n + 1 = omega arith in
    let ih = map-passing test f g n (λ k l. h k (omega arith)) in
    rw e (grind (arith, ints, passing-yes test n, passing-no test n, map-append f (passing test n) (n ∷ []), map-append g (passing test n) (n ∷ []), h n))

-- ---- some number below n that passes one test passes another

pub list_any-none : (f g : ℕ → Bool) (n : ℕ) → ((k : ℕ) → k < n → g k ≡ true → f k ≡ false) → list_any f (passing g n) ≡ false
list_any-none f g zero h = rw (passing-zero g)
list_any-none f g (suc n) h =
    let e : suc n ≡ n + 1 = omega arith in
    let ih = list_any-none f g n (λ k l. h k (omega arith)) in
    rw e (grind (arith, ints, passing-yes g n, passing-no g n, list_any-snoc f (passing g n) n, h n))

pub list_any_one : (f g : ℕ → Bool) (n k : ℕ) → k < n → g k ≡ true → f k ≡ true → list_any f (passing g n) ≡ true
list_any_one f g zero k l p q = absurd (omega arith)
list_any_one f g (suc n) k l p q =
    let e : suc n ≡ n + 1 = omega arith in
    let ih : k < n → list_any f (passing g n) ≡ true = λ r. list_any_one f g n k r p q in
    rw e (grind (arith, ints, passing-yes g n, passing-no g n, list_any-snoc f (passing g n) n))
