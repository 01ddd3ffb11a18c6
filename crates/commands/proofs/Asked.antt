-- What was read before memory is asked for, and so which lines ask for it.
use Rattle.std.proofs.Common.{◌≡◌, ℕ, List, [], ◌∷◌, Option, Some, None, Ok, true, is_some, ◌&&◌, refl, sym, ap, ◌∙◌}
use Rattle.std.proofs.Math.Bool.{and-true}
use Rattle.words.specs.declared.fault.Form.TheVariants.{Lent as lent_form}
use Rattle.words.specs.declared.spelled.Lent.{Lent}
use Rattle.words.specs.Spelled.{lent}
use Rattle.words.specs.Texts.{misspelled_word}
use Rattle.words.specs.Words.{Told, ◌>>=◌, Numbered, or_told, one_word, two_words, three_words, four_words, up_to_one_word, one_or_two_words, two_or_three_words}
use Rattle.commands.specs.declared.command.Change.TheVariants.{Read}
use Rattle.commands.specs.declared.command.Query.{Query}
use Rattle.commands.specs.declared.command.Query.TheVariants.{Verdict, Injective, Copy, Record}
use Rattle.commands.specs.Scratch.{words_given}
use Rattle.commands.specs.Asking.{is_lent, is_lent_if, change_asks, query_asks}

given_by : (value : Option Lent) (number : ℕ) (text : List ℕ) (count : Option ℕ) → (or_told value (misspelled_word number text lent_form) >>= λ words. Ok (Some words.0)) ≡ Ok count → is_some value ≡ true
given_by None number text count e = cc
given_by (Some y) number text count e = refl

-- WORDS that were read are spelled
pub given : (words : Option Numbered) (count : Option ℕ) → words_given words ≡ Ok count → is_lent_if words ≡ true
given None count e = refl
given (Some (number, text)) count e = given_by (lent text) number text count e

-- ---- as many words as a command takes

same : {A : Type 0} (read : Told A) (x w : A) → read ≡ Ok x → read ≡ Ok w → x ≡ w
same read x w p q = cc

pub one : (usage : List ℕ) (words : List (List ℕ)) (w : Numbered) → one_word usage words ≡ Ok w → words ≡ w.1 ∷ []
unfolding one_word
one usage [] w e = cc
one usage (a ∷ []) w e = cc
one usage (a ∷ b ∷ more) w e = cc

pub two : (usage : List ℕ) (words : List (List ℕ)) (w : Numbered × Numbered) → two_words usage words ≡ Ok w → words ≡ w.0.1 ∷ w.1.1 ∷ []
unfolding two_words
two usage [] w e = cc
two usage (a ∷ []) w e = cc
two usage (a ∷ b ∷ []) w e = ap (λ (v : Numbered × Numbered). v.0.1 ∷ v.1.1 ∷ []) (same (two_words usage (a ∷ b ∷ [])) ((2, a), (3, b)) w refl e)
two usage (a ∷ b ∷ c ∷ more) w e = cc

pub three : (usage : List ℕ) (words : List (List ℕ)) (w : Numbered × Numbered × Numbered) → three_words usage words ≡ Ok w → words ≡ w.0.1 ∷ w.1.1 ∷ w.2.1 ∷ []
unfolding three_words
three usage [] w e = cc
three usage (a ∷ []) w e = cc
three usage (a ∷ b ∷ []) w e = cc
three usage (a ∷ b ∷ c ∷ []) w e =
    ap (λ (v : Numbered × Numbered × Numbered). v.0.1 ∷ v.1.1 ∷ v.2.1 ∷ []) (same (three_words usage (a ∷ b ∷ c ∷ [])) ((2, a), (3, b), (4, c)) w refl e)
three usage (a ∷ b ∷ c ∷ d ∷ more) w e = cc

pub four : (usage : List ℕ) (words : List (List ℕ)) (w : Numbered × Numbered × Numbered × Numbered) → four_words usage words ≡ Ok w → words ≡ w.0.1 ∷ w.1.1 ∷ w.2.1 ∷ w.3.1 ∷ []
unfolding four_words
four usage [] w e = cc
four usage (a ∷ []) w e = cc
four usage (a ∷ b ∷ []) w e = cc
four usage (a ∷ b ∷ c ∷ []) w e = cc
four usage (a ∷ b ∷ c ∷ d ∷ []) w e =
    ap (λ (v : Numbered × Numbered × Numbered × Numbered). v.0.1 ∷ v.1.1 ∷ v.2.1 ∷ v.3.1 ∷ [])
    (same (four_words usage (a ∷ b ∷ c ∷ d ∷ [])) ((2, a), (3, b), (4, c), (5, d)) w refl e)
four usage (a ∷ b ∷ c ∷ d ∷ f ∷ more) w e = cc

-- ---- commands of which a word may be left out

pub read_asks : (usage : List ℕ) (words : List (List ℕ)) (w : Numbered × Option Numbered) → one_or_two_words usage words ≡ Ok w → change_asks Read words ≡ true
unfolding one_or_two_words change_asks
read_asks usage [] w e = cc
read_asks usage (a ∷ []) w e = refl
read_asks usage (a ∷ b ∷ []) w e = refl
read_asks usage (a ∷ b ∷ c ∷ more) w e = cc

pub verdict_asks : (usage : List ℕ) (words : List (List ℕ)) (w : Option Numbered) → up_to_one_word usage words ≡ Ok w → query_asks Verdict words ≡ is_lent_if w
unfolding up_to_one_word query_asks
verdict_asks usage [] w e = ap is_lent_if (same (up_to_one_word usage []) None w refl e)
verdict_asks usage (a ∷ []) w e = ap is_lent_if (same (up_to_one_word usage (a ∷ [])) (Some (2, a)) w refl e)
verdict_asks usage (a ∷ b ∷ more) w e = cc

-- with two words or with three
module _ (query : Query) (two_ask : (a b : List ℕ) → query_asks query (a ∷ b ∷ []) ≡ true) (three_ask : (a b c : List ℕ) → query_asks query (a ∷ b ∷ c ∷ []) ≡ true) where
  two_or_three_ask : (usage : List ℕ) (words : List (List ℕ)) (w : Numbered × Numbered × Option Numbered) → two_or_three_words usage words ≡ Ok w → query_asks query words ≡ true
  unfolding two_or_three_words
  two_or_three_ask usage [] w e = cc
  two_or_three_ask usage (a ∷ []) w e = cc
  two_or_three_ask usage (a ∷ b ∷ []) w e = two_ask a b
  two_or_three_ask usage (a ∷ b ∷ c ∷ []) w e = three_ask a b c
  two_or_three_ask usage (a ∷ b ∷ c ∷ d ∷ more) w e = cc

pub injective_asks : (usage : List ℕ) (words : List (List ℕ)) (w : Numbered × Numbered × Option Numbered) → two_or_three_words usage words ≡ Ok w → query_asks Injective words ≡ true
unfolding query_asks
injective_asks = two_or_three_ask Injective (λ a b. refl) (λ a b c. refl)

pub copy_asks : (usage : List ℕ) (words : List (List ℕ)) (w : Numbered × Numbered × Option Numbered) → two_or_three_words usage words ≡ Ok w → query_asks Copy words ≡ true
unfolding query_asks
copy_asks = two_or_three_ask Copy (λ a b. refl) (λ a b c. refl)

pub record_asks : (usage : List ℕ) (words : List (List ℕ)) (w : Numbered × Option Numbered) → one_or_two_words usage words ≡ Ok w → query_asks Record words ≡ (is_lent w.0.1 && is_lent_if w.1)
unfolding one_or_two_words query_asks
record_asks usage [] w e = cc
record_asks usage (a ∷ []) w e =
    sym (and-true (is_lent a)) ∙ ap (λ (v : Numbered × Option Numbered). is_lent v.0.1 && is_lent_if v.1) (same (one_or_two_words usage (a ∷ [])) ((2, a), None) w refl e)
record_asks usage (a ∷ b ∷ []) w e =
    ap (λ (v : Numbered × Option Numbered). is_lent v.0.1 && is_lent_if v.1) (same (one_or_two_words usage (a ∷ b ∷ [])) ((2, a), Some (3, b)) w refl e)
record_asks usage (a ∷ b ∷ c ∷ more) w e = cc
