-- The laws of `copies`, readings copied in turn from place to place: one more, those of a part in a row, and what stands at each place.
use Rattle.std.specs.Prelude.{◌≢◌, ◌≡◌, List, ℕ, zero, suc, ◌+◌, ◌<◌, ◌≤◌, ℤ, pos, length, get_or, set, slice_get, slice_set, slice_index_or, Some}
use Rattle.std.proofs.Common.{add-one}
use Rattle.std.proofs.Math.Seq.{paste}
use Rattle.std.proofs.lemmas.List.Edits.{paste_none, paste_more}
use mathlib.Core.Path.{refl, sym, ap, ◌∙◌}
use native.Mathlib.Decide.{ℕ_discrete, dec_lt}
use native.Mathlib.Omega.{arith}
use lib.ListN.{length-set}
use lib.Seq.{get_or-set_same, get_or-set_other}
use Rattle.std.proofs.lemmas.Option.{slice_get-get_or, slice_get_past}
use Rattle.copying.specs.Copy.{copies}

-- one more
pub copies-add_one : (source destination : ℕ → ℕ) (from : List ℤ) (k : ℕ) (to : List ℤ)
    → copies source destination from (k + 1) to ≡ slice_set (copies source destination from k to) (destination k) (slice_index_or from (source k) (pos 0))
unfolding copies
copies-add_one source destination from k to = rw (add-one k) refl

-- m of them, and then n more
pub copies-split : (source destination : ℕ → ℕ) (from : List ℤ) (m n : ℕ) (to : List ℤ)
    → copies source destination from (n + m) to ≡ copies (λ i. source (i + m)) (λ i. destination (i + m)) from n (copies source destination from m to)
unfolding copies
copies-split source destination from m zero to = let e : 0 + m ≡ m = omega arith in rw e refl
copies-split source destination from m (suc n) to =
    let e : suc n + m ≡ suc (n + m) = omega arith in
    rw e (ap (λ (l : List ℤ). slice_set l (destination (n + m)) (slice_index_or from (source (n + m)) (pos 0))) (copies-split source destination from m n to))

-- by places that are the same
pub copies-same : (s t d e : ℕ → ℕ) (from : List ℤ) (n : ℕ) (to : List ℤ) → ((i : ℕ) → i < n → s i ≡ t i) → ((i : ℕ) → i < n → d i ≡ e i) → copies s d from n to ≡ copies t e from n to
unfolding copies
copies-same s t d e from zero to f g = refl
copies-same s t d e from (suc n) to f g =
    rw (f n (omega arith), g n (omega arith), copies-same s t d e from n to (λ i h. f i (omega arith)) (λ i h. g i (omega arith))) refl

-- of readings side by side: a part of one list over a part of the other
pub copies-dense : (source destination : ℕ) (from part : List ℤ) (n : ℕ) (to : List ℤ) → n ≤ length part → destination + n ≤ length to
    → ((i : ℕ) → i < n → get_or part i (pos 0) ≡ get_or from (source + i) (pos 0)) → copies (λ i. source + i) (λ i. destination + i) from n to ≡ paste to destination part n
unfolding copies
copies-dense source destination from part zero to h k f = paste_none to destination part
copies-dense source destination from part (suc n) to h k f =
    rw (copies-dense source destination from part n to (omega arith) (omega arith) (λ i l. f i (omega arith)), ← f n (omega arith))
    (paste_more to destination part n (pos 0) (omega arith) (omega arith) ∙ ap (λ (k : ℕ). paste to destination part k) (add-one n))

-- ---- what stands at each place afterwards

module _ (s d : ℕ → ℕ) (from : List ℤ) where
  -- a list stays as long as it was
  pub length-copies : (n : ℕ) (to : List ℤ) → length (copies s d from n to) ≡ length to
  unfolding copies
  length-copies zero to = refl
  length-copies (suc n) to = length-set (copies s d from n to) (d n) _ ∙ length-copies n to

  -- a place that is not written stays
  pub get_or-copies_other : (n : ℕ) (to : List ℤ) (i : ℕ) → ((k : ℕ) → k < n → d k ≢ i) → get_or (copies s d from n to) i (pos 0) ≡ get_or to i (pos 0)
  unfolding copies
  get_or-copies_other zero to i h = refl
  get_or-copies_other (suc n) to i h =
      get_or-set_other (copies s d from n to) (d n) i _ (pos 0) (λ e. h n (omega arith) (sym e))
      ∙ get_or-copies_other n to i (λ k l. h k (omega arith))

  -- a place that is written once holds its reading
  pub get_or-copies_written : (n : ℕ) (to : List ℤ) → ((i j : ℕ) → i < n → j < n → d i ≡ d j → i ≡ j) → ((i : ℕ) → i < n → d i < length to)
      → (k : ℕ) → k < n → get_or (copies s d from n to) (d k) (pos 0) ≡ slice_index_or from (s k) (pos 0)
  unfolding copies
  get_or-copies_written zero to once within k h = absurd (omega arith)
  get_or-copies_written (suc n) to once within k h = go (ℕ_discrete k n) (get_or-copies_written n to (λ i j p q. once i j (omega arith) (omega arith)) (λ i p. within i (omega arith)) k)
    where
      go : Dec (k ≡ n) → (k < n → get_or (copies s d from n to) (d k) (pos 0) ≡ slice_index_or from (s k) (pos 0))
          → get_or (set (copies s d from n to) (d n) (slice_index_or from (s n) (pos 0))) (d k) (pos 0) ≡ slice_index_or from (s k) (pos 0)
      go (yes e) before = rw e (get_or-set_same (copies s d from n to) (d n) _ (pos 0) (omega (arith, length-copies n to, within n (omega arith))))
      go (no e) before =
          get_or-set_other (copies s d from n to) (d n) (d k) _ (pos 0) (λ q. e (once k n h (omega arith) q))
          ∙ before (omega arith)

  pub slice_get-copies_other : (n : ℕ) (to : List ℤ) (i : ℕ) → ((k : ℕ) → k < n → d k ≢ i) → slice_get (copies s d from n to) i ≡ slice_get to i
  slice_get-copies_other n to i h = by (dec_lt i (length to))
    where
      by : Dec (i < length to) → slice_get (copies s d from n to) i ≡ slice_get to i
      by (yes q) = rw (slice_get-get_or to i (pos 0) q, slice_get-get_or (copies s d from n to) i (pos 0) (omega (arith, length-copies n to)), get_or-copies_other n to i h) refl
      by (no q) = rw (slice_get_past to i (omega arith), slice_get_past (copies s d from n to) i (omega (arith, length-copies n to))) refl

  pub slice_get-copies_written : (n : ℕ) (to : List ℤ) → ((i j : ℕ) → i < n → j < n → d i ≡ d j → i ≡ j) → ((i : ℕ) → i < n → d i < length to)
      → (k : ℕ) → k < n → slice_get (copies s d from n to) (d k) ≡ Some (slice_index_or from (s k) (pos 0))
  slice_get-copies_written n to once within k h =
      slice_get-get_or (copies s d from n to) (d k) (pos 0) (omega (arith, length-copies n to, within k h)) ∙ ap Some (get_or-copies_written n to once within k h)
