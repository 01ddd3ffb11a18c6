-- The first six words of a line decide what it is answered.
use Rattle.std.proofs.Common.{◌≡◌, ◌<◌, ◌≤◌, ℕ, List, [], ◌∷◌, take, Bool, true, false, Option, Some, None, Ok, Err, IsTrue, ◌≢◌, length, length-append, arith, ap, refl, sym}
use Rattle.std.proofs.lemmas.Bool.{lt-ltb}
use Rattle.words.specs.Texts.{word_count}
use Rattle.words.specs.Words.{Told, words, no_word, one_word, two_words, three_words, four_words, up_to_one_word, one_or_two_words, two_or_three_words}
use Rattle.commands.specs.declared.command.Command.{Command}
use Rattle.commands.specs.declared.command.Command.TheVariants as command
use Rattle.commands.specs.declared.command.Change.TheVariants.{New, Set, Permute, Diagonal, Broadcast, Read}
use Rattle.commands.specs.declared.command.Query.TheVariants.{Bounds, Show, Draw, Offset, Normal, Verdict, Injective, Copy, Means, Record, Rest, Order, Column, Row, Help}
use Rattle.commands.specs.Layouts.{Layouts}
use Rattle.commands.specs.Commands.{named, name_of, usage_of}
use Rattle.commands.specs.Obeyed.{Answered, next_layout, answer_text, run, obeyed}
use Rattle.session.specs.Session.{begins_with, in_line, by_words, words_ask, by_length}

module _ (ls : Layouts) (a b c d e : List ℕ) (more : List (List ℕ)) where
  -- past four, words behind a name are not counted
  counted : (usage : List ℕ) (least most : ℕ) → most ≤ 4 → word_count usage least most 5 ≡ word_count usage least most (length (a ∷ b ∷ c ∷ d ∷ e ∷ more))
  unfolding word_count
  counted usage least most few =
      let some : 4 < length (a ∷ b ∷ c ∷ d ∷ e ∷ more) = omega arith in
      rw (lt-ltb 4 (length (a ∷ b ∷ c ∷ d ∷ e ∷ more)) some, lt-ltb most 5 (omega (arith, few)), lt-ltb most (length (a ∷ b ∷ c ∷ d ∷ e ∷ more)) (omega (arith, few, some))) refl

  -- no command takes five words
  five_run : (command : Command) → run ls command (a ∷ b ∷ c ∷ d ∷ e ∷ []) ≡ run ls command (a ∷ b ∷ c ∷ d ∷ e ∷ more)
  unfolding run next_layout answer_text no_word one_word two_words three_words four_words up_to_one_word one_or_two_words two_or_three_words
  five_run (command.Change New) = ap Err (counted (usage_of (command.Change New)) 4 4 (omega arith))
  five_run (command.Change Set) = ap Err (counted (usage_of (command.Change Set)) 4 4 (omega arith))
  five_run (command.Change Permute) = ap Err (counted (usage_of (command.Change Permute)) 1 1 (omega arith))
  five_run (command.Change Diagonal) = ap Err (counted (usage_of (command.Change Diagonal)) 1 1 (omega arith))
  five_run (command.Change Broadcast) = ap Err (counted (usage_of (command.Change Broadcast)) 1 1 (omega arith))
  five_run (command.Change Read) = ap Err (counted (usage_of (command.Change Read)) 1 2 (omega arith))
  five_run (command.Query Bounds) = ap Err (counted (usage_of (command.Query Bounds)) 4 4 (omega arith))
  five_run (command.Query Show) = ap Err (counted (usage_of (command.Query Show)) 0 0 (omega arith))
  five_run command.Hold = ap Err (counted (usage_of command.Hold) 0 0 (omega arith))
  five_run (command.Query Draw) = ap Err (counted (usage_of (command.Query Draw)) 0 0 (omega arith))
  five_run (command.Query Offset) = ap Err (counted (usage_of (command.Query Offset)) 1 1 (omega arith))
  five_run (command.Query Normal) = ap Err (counted (usage_of (command.Query Normal)) 0 0 (omega arith))
  five_run (command.Query Verdict) = ap Err (counted (usage_of (command.Query Verdict)) 0 1 (omega arith))
  five_run (command.Query Injective) = ap Err (counted (usage_of (command.Query Injective)) 2 3 (omega arith))
  five_run (command.Query Copy) = ap Err (counted (usage_of (command.Query Copy)) 2 3 (omega arith))
  five_run (command.Query Means) = ap Err (counted (usage_of (command.Query Means)) 3 3 (omega arith))
  five_run (command.Query Record) = ap Err (counted (usage_of (command.Query Record)) 1 2 (omega arith))
  five_run (command.Query Rest) = ap Err (counted (usage_of (command.Query Rest)) 1 1 (omega arith))
  five_run (command.Query Order) = ap Err (counted (usage_of (command.Query Order)) 2 2 (omega arith))
  five_run (command.Query Column) = ap Err (counted (usage_of (command.Query Column)) 1 1 (omega arith))
  five_run (command.Query Row) = ap Err (counted (usage_of (command.Query Row)) 1 1 (omega arith))
  five_run (command.Query Help) = ap Err (counted (usage_of (command.Query Help)) 0 1 (omega arith))

  five_obeyed : (name : List ℕ) → obeyed ls name (a ∷ b ∷ c ∷ d ∷ e ∷ []) ≡ obeyed ls name (a ∷ b ∷ c ∷ d ∷ e ∷ more)
  unfolding obeyed name_of
  five_obeyed name = by (named name) refl
    where
      by : (found : Option Command) → named name ≡ found → obeyed ls name (a ∷ b ∷ c ∷ d ∷ e ∷ []) ≡ obeyed ls name (a ∷ b ∷ c ∷ d ∷ e ∷ more)
      by None is = rw is refl
      by (Some command) is = rw is (five_run command)

pub first_six : (ls : Layouts) (words : List (List ℕ)) → by_words ls (take 6 words) ≡ by_words ls words
unfolding by_words
first_six ls [] = refl
first_six ls (name ∷ []) = refl
first_six ls (name ∷ a ∷ []) = refl
first_six ls (name ∷ a ∷ b ∷ []) = refl
first_six ls (name ∷ a ∷ b ∷ c ∷ []) = refl
first_six ls (name ∷ a ∷ b ∷ c ∷ d ∷ []) = refl
first_six ls (name ∷ a ∷ b ∷ c ∷ d ∷ e ∷ more) = rw (five_obeyed ls a b c d e more name) refl

-- what a line that is not too long is answered, by its first six words
pub by_front : (ls : Layouts) (long : Bool) (line : List ℕ) (front : List (List ℕ)) → long ≡ false → front ≡ take 6 (words line) → by_length ls long line ≡ by_words ls front
by_front ls long line front short first = rw (short, first) (sym (first_six ls (words line)))

-- a line that asks for memory is no blank line and no comment
pub asked_has_text : (ls : Layouts) (words : List (List ℕ)) → IsTrue (words_ask words) → (by_words ls words).text ≢ []
unfolding by_words
asked_has_text ls [] asks = absurd (cc)
asked_has_text ls (name ∷ words) asks = by_comment (begins_with 35 name) refl
  where
    ends : (told : Told Answered) → (in_line ls told).text ≢ []
    ends (Ok a) none = omega (arith, ap length none, length-append a.text (10 ∷ []))
    ends (Err text) none = omega (arith, ap length none, length-append text (10 ∷ []))

    by_comment : (comment : Bool) → begins_with 35 name ≡ comment → (by_words ls (name ∷ words)).text ≢ []
    by_comment true is = absurd (let no : false ≡ true = rw is at asks in cc)
    by_comment false is = rw is (ends (obeyed ls name words))
