-- The first line of bytes, and the lines behind it.
use Rattle.std.proofs.Common.{◌≡◌, ◌≢◌, ℕ, suc, ◌-◌, length, take, get_or, List, [], ◌∷◌, Bool, true, false, cond, refl, sym, ap, ◌∙◌, arith}
use Rattle.std.specs.Prelude.{◌==◌, nat_lt}
use Rattle.std.proofs.lemmas.Bool.{lt-ltb}
use Rattle.std.specs.Io.BufRead.{drop_through, first_piece, take_through, strip_last}
use Rattle.lines.specs.Lines.{lines_of, lines_with}

-- a byte in front of others stays there
strip-cons : (b c : ℕ) (t : List ℕ) → strip_last 10 (b ∷ c ∷ t) ≡ b ∷ strip_last 10 (c ∷ t)
strip-cons b c t =
    let long : length (b ∷ c ∷ t) - 1 ≡ suc (length t) = omega arith in
    let short : length (c ∷ t) - 1 ≡ length t = omega arith in
    let many : nat_lt 0 (length (b ∷ c ∷ t)) ≡ true = lt-ltb _ _ (omega arith) in
    let some : nat_lt 0 (length (c ∷ t)) ≡ true = lt-ltb _ _ (omega arith) in
    rw (long, short, many, some) (by_test (get_or (c ∷ t) (length t) 0 == 10))
  where
    by_test : (last : Bool) → cond last (b ∷ take (length t) (c ∷ t)) (b ∷ c ∷ t) ≡ b ∷ cond last (take (length t) (c ∷ t)) (c ∷ t)
    by_test true = refl
    by_test false = refl

one_byte : (b : ℕ) → (b == 10) ≡ false → strip_last 10 (b ∷ []) ≡ b ∷ []
one_byte b other = rw other refl

-- the first byte of what is taken
longer : (b c : ℕ) (bytes : List ℕ) → strip_last 10 (b ∷ take_through 10 (c ∷ bytes)) ≡ b ∷ first_piece 10 (c ∷ bytes)
longer b c bytes = by_test (c == 10)
  where
    by_test : (feed : Bool) → strip_last 10 (b ∷ cond feed (c ∷ []) (c ∷ take_through 10 bytes)) ≡ b ∷ strip_last 10 (cond feed (c ∷ []) (c ∷ take_through 10 bytes))
    by_test true = strip-cons b c []
    by_test false = strip-cons b c (take_through 10 bytes)

pub first_line_of : (bytes : List ℕ) → bytes ≢ [] → lines_of bytes ≡ first_piece 10 bytes ∷ lines_of (drop_through 10 bytes)
first_line_of [] some = absurd (some refl)
first_line_of (b ∷ bytes) some = by_feed bytes (b == 10) refl (first_line_of bytes)
  where
    by_feed : (bytes : List ℕ) (feed : Bool) → (b == 10) ≡ feed → (bytes ≢ [] → lines_of bytes ≡ first_piece 10 bytes ∷ lines_of (drop_through 10 bytes))
        → cond feed ([] ∷ lines_of bytes) (lines_with b (lines_of bytes)) ≡ strip_last 10 (cond feed (b ∷ []) (b ∷ take_through 10 bytes)) ∷ lines_of (cond feed bytes (drop_through 10 bytes))
    by_feed bytes true e rest = ap (λ (front : List ℕ). front ∷ lines_of bytes) (sym (rw e refl))
    by_feed [] false e rest = ap (λ (front : List ℕ). front ∷ []) (sym (one_byte b e))
    by_feed (c ∷ bytes) false e rest =
        ap (lines_with b) (rest (λ e. cc)) ∙ ap (λ (front : List ℕ). front ∷ lines_of (drop_through 10 (c ∷ bytes))) (sym (longer b c bytes))
