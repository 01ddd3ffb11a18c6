-- Lines that are seen to have no answer have none.
use Rattle.std.proofs.Common.{◌≡◌, ℕ, suc, ◌-◌, List, [], ◌∷◌, length, not, eqb, Bool, true, false, refl, arith}
use Rattle.std.proofs.lemmas.Bool.{eqb-true, lt-ltb}
use Rattle.std.specs.Io.BufRead.{ends_with_byte, strip_last}
use Rattle.std.specs.List.{slice_split, onto_first, filter}
use Rattle.words.specs.Words.{is_space, words}
use Rattle.commands.specs.Layouts.{Layouts}
use Rattle.session.specs.Session.{by_words, by_length, is_silent, unanswered}

-- a carriage return is taken from the end, whatever the first byte is
module _ (first byte : ℕ) (rest : List ℕ) where
  ends : ends_with_byte 13 (first ∷ byte ∷ rest) ≡ ends_with_byte 13 (byte ∷ rest)
  ends =
      let long : length (first ∷ byte ∷ rest) - 1 ≡ suc (length rest) = omega arith in
      let short : length (byte ∷ rest) - 1 ≡ length rest = omega arith in
      rw (long, short, lt-ltb 0 (length (first ∷ byte ∷ rest)) (omega arith), lt-ltb 0 (length (byte ∷ rest)) (omega arith)) refl

  stripped : strip_last 13 (first ∷ byte ∷ rest) ≡ first ∷ strip_last 13 (byte ∷ rest)
  stripped = by (ends_with_byte 13 (byte ∷ rest)) refl
    where
      by : (cut : Bool) → ends_with_byte 13 (byte ∷ rest) ≡ cut → strip_last 13 (first ∷ byte ∷ rest) ≡ first ∷ strip_last 13 (byte ∷ rest)
      by true is =
          let long : length (first ∷ byte ∷ rest) - 1 ≡ suc (length (byte ∷ rest) - 1) = omega arith in
          rw (ends, is, long) refl
      by false is = rw (ends, is) refl

-- a first word that begins with `#`
named : (ls : Layouts) (parts : List (List ℕ)) → by_words ls (filter (λ text. not (eqb (length text) 0)) (onto_first 35 parts)) ≡ unanswered ls
unfolding by_words
named ls [] = refl
named ls (part ∷ parts) = let some : eqb (length (35 ∷ part)) 0 ≡ false = grind arith in rw some refl

comment : (ls : Layouts) (rest : List ℕ) → by_words ls (words (35 ∷ rest)) ≡ unanswered ls
comment ls [] = named ls (slice_split is_space [])
comment ls (byte ∷ rest) = rw (stripped 35 byte rest) (named ls (slice_split is_space (strip_last 13 (byte ∷ rest))))

-- a space in front
behind_blank : (rest : List ℕ) → words (32 ∷ rest) ≡ words rest
behind_blank [] = refl
behind_blank (byte ∷ rest) = rw (stripped 32 byte rest) refl

behind_tab : (rest : List ℕ) → words (9 ∷ rest) ≡ words rest
behind_tab [] = refl
behind_tab (byte ∷ rest) = rw (stripped 9 byte rest) refl

behind_space : (byte : ℕ) (rest : List ℕ) → is_space byte ≡ true → words (byte ∷ rest) ≡ words rest
behind_space byte rest space = by (eqb byte 32) refl
  where
    by : (blank : Bool) → eqb byte 32 ≡ blank → words (byte ∷ rest) ≡ words rest
    by true is = rw (eqb-true byte 32 is) (behind_blank rest)
    by false is = let tab : eqb byte 9 ≡ true = rw is at space in rw (eqb-true byte 9 tab) (behind_tab rest)

no_words : (ls : Layouts) (line : List ℕ) → is_silent line ≡ true → by_words ls (words line) ≡ unanswered ls
unfolding by_words
no_words ls [] is = refl
no_words ls (byte ∷ rest) is = by (is_space byte) refl (no_words ls rest)
  where
    by : (space : Bool) → is_space byte ≡ space → (is_silent rest ≡ true → by_words ls (words rest) ≡ unanswered ls) → by_words ls (words (byte ∷ rest)) ≡ unanswered ls
    by true space behind = rw (behind_space byte rest space) (behind (rw (space, is_silent) at is))
    by false space behind = let hash : eqb byte 35 ≡ true = rw (space, is_silent) at is in rw (eqb-true byte 35 hash) (comment ls rest)

pub silent : (ls : Layouts) (long : Bool) (line : List ℕ) → long ≡ false → is_silent line ≡ true → by_length ls long line ≡ unanswered ls
silent ls long line short is = rw short (no_words ls line is)
