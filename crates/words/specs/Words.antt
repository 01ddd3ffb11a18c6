-- The words of a line and what they spell, or the first fault from the left. Assumes nothing.
use Rattle.std.specs.Prelude.{ℕ, Bool, not, ◌&&◌, ◌||◌, List, [], ◌∷◌, ◌+◌, ◌==◌, nat_lt, length, slice_index, filter, if◌then◌else◌, Option, Some, None, Result, Ok, Err, ◌≡◌, IsTrue, ⊤}
use Rattle.std.specs.List.{slice_split, list_all}
use Rattle.std.specs.Io.BufRead.{strip_last}
use Rattle.hex.specs.Hex.{decode_of, is_hex_digit}
use Rattle.hex.specs.declared.error.FromHexError.{FromHexError}
use Rattle.words.specs.declared.place.Word.{Word}
use Rattle.words.specs.declared.fault.Form.{Form}
use Rattle.words.specs.declared.fault.Fault.{Fault}
use Rattle.words.specs.declared.fault.Problem.{Problem}
use Rattle.words.specs.declared.fault.Problem.TheVariants as problem
use Rattle.words.specs.Texts.{word_count, misspelled_word, misspelled_entry, many_entries, odd_digits, bad_digit, fault_text}

-- ---- what is told

-- a value, or the text of a fault
abbrev pub Told : Type 0 → Type 0
Told A = Result A (List ℕ)

infixl 10 ◌>>=◌
abbrev pub ◌>>=◌ : {A B : Type 0} → Told A → (A → Told B) → Told B
(Ok x) >>= f = f x
(Err text) >>= f = Err text

-- what a function returned that asks for no memory, seen by view, is what the definition gives
abbrev pub Tells : {X Y : Type 0} → (X → Y) → Result X Fault → Told Y → Type 0
Tells view (Ok x) told = told ≡ Ok (view x)
Tells view (Err fault) told = told ≡ Err (fault_text fault)

-- a problem is the fault that the definition gives, or that memory ran out
abbrev pub Fails : {Y : Type 0} → Problem → Told Y → Type 0
Fails problem.Memory told = Unit {0}
Fails (problem.Told fault) told = told ≡ Err (fault_text fault)

-- what a function returned, seen by view, is what the definition gives, unless memory ran out
abbrev pub Gives : {X Y : Type 0} → (X → Y) → Result X Problem → Told Y → Type 0
Gives view (Ok x) told = told ≡ Ok (view x)
Gives view (Err p) told = Fails p told

-- memory ran out only if it was asked for
abbrev pub MemoryOnlyIf : {X : Type 0} → Bool → Result X Problem → Type 0
MemoryOnlyIf asked (Ok x) = ⊤
MemoryOnlyIf asked (Err problem.Memory) = IsTrue asked
MemoryOnlyIf asked (Err (problem.Told fault)) = ⊤

-- ---- words

-- a space (32) or a tab (9)
abbrev pub is_space : ℕ → Bool
is_space byte = byte == 32 || byte == 9

-- what stands between spaces; a carriage return (13) at the end of the line is space too
abbrev pub words : List ℕ → List (List ℕ)
words line = filter (λ text. not (length text == 0)) (slice_split is_space (strip_last 13 line))

-- a word with its number in the line, counted from 1
abbrev pub Numbered : Type 0
Numbered = ℕ × List ℕ

abbrev pub numbered : Word → Numbered
numbered w = (w.number, w.text.now)

abbrev pub numbered_if : Option Word → Option Numbered
numbered_if None = None
numbered_if (Some w) = Some (numbered w)

-- the words behind the name of a command that takes so many of them; its usage tells of any other number
unfoldable pub no_word : List ℕ → List (List ℕ) → Told (Unit {0})
no_word usage [] = Ok tt
no_word usage other = Err (word_count usage 0 0 (length other))

unfoldable pub one_word : List ℕ → List (List ℕ) → Told Numbered
one_word usage (a ∷ []) = Ok (2, a)
one_word usage other = Err (word_count usage 1 1 (length other))

unfoldable pub two_words : List ℕ → List (List ℕ) → Told (Numbered × Numbered)
two_words usage (a ∷ b ∷ []) = Ok ((2, a), (3, b))
two_words usage other = Err (word_count usage 2 2 (length other))

unfoldable pub three_words : List ℕ → List (List ℕ) → Told (Numbered × Numbered × Numbered)
three_words usage (a ∷ b ∷ c ∷ []) = Ok ((2, a), (3, b), (4, c))
three_words usage other = Err (word_count usage 3 3 (length other))

unfoldable pub four_words : List ℕ → List (List ℕ) → Told (Numbered × Numbered × Numbered × Numbered)
four_words usage (a ∷ b ∷ c ∷ d ∷ []) = Ok ((2, a), (3, b), (4, c), (5, d))
four_words usage other = Err (word_count usage 4 4 (length other))

-- the last of them may be left out
unfoldable pub up_to_one_word : List ℕ → List (List ℕ) → Told (Option Numbered)
up_to_one_word usage [] = Ok None
up_to_one_word usage (a ∷ []) = Ok (Some (2, a))
up_to_one_word usage other = Err (word_count usage 0 1 (length other))

unfoldable pub one_or_two_words : List ℕ → List (List ℕ) → Told (Numbered × Option Numbered)
one_or_two_words usage (a ∷ []) = Ok ((2, a), None)
one_or_two_words usage (a ∷ b ∷ []) = Ok ((2, a), Some (3, b))
one_or_two_words usage other = Err (word_count usage 1 2 (length other))

unfoldable pub two_or_three_words : List ℕ → List (List ℕ) → Told (Numbered × Numbered × Option Numbered)
two_or_three_words usage (a ∷ b ∷ []) = Ok ((2, a), (3, b), None)
two_or_three_words usage (a ∷ b ∷ c ∷ []) = Ok ((2, a), (3, b), Some (4, c))
two_or_three_words usage other = Err (word_count usage 2 3 (length other))

-- ---- what a word spells

-- `-` (45) stands for no entry and no byte
abbrev pub is_none : List ℕ → Bool
is_none text = length text == 1 && slice_index text 0 == 45

-- the texts between commas (44)
abbrev pub entries : List ℕ → List (List ℕ)
entries text = if is_none text then [] else slice_split (λ byte. byte == 44) text

abbrev pub or_told : {A : Type 0} → Option A → List ℕ → Told A
or_told (Some x) text = Ok x
or_told None text = Err text

-- a word that spells one value
abbrev pub one_of : {A : Type 0} → (List ℕ → Option A) → Form → Numbered → Told A
one_of spelled form (number, text) = or_told (spelled text) (misspelled_word number text form)

-- what entries of a word spell, the first of them at a place
unfoldable pub listed : {A : Type 0} → (List ℕ → Option A) → Form → ℕ → ℕ → List (List ℕ) → Told (List A)
listed spelled form word place [] = Ok []
listed spelled form word place (text ∷ texts) = do
  x ← or_told (spelled text) (misspelled_entry word place text form)
  xs ← listed spelled form word (place + 1) texts
  Ok (x ∷ xs)

-- a word that is a list of at most 64 entries
unfoldable pub list_of : {A : Type 0} → (List ℕ → Option A) → Form → Numbered → Told (List A)
list_of spelled form (number, text) =
    if nat_lt 64 (length (entries text)) then Err (many_entries number text)
    else listed spelled form number 1 (entries text)

-- the bytes that pairs of hexadecimal digits write; `-` for none. Digits alone that are no pairs are odd in number
abbrev pub decoded : ℕ → List ℕ → Result (List ℕ) FromHexError → Told (List ℕ)
decoded number text (Ok bytes) = Ok bytes
decoded number text (Err other) = Err (if list_all is_hex_digit text then odd_digits number text else bad_digit number text)

unfoldable pub bytes_of : Numbered → Told (List ℕ)
bytes_of (number, text) = if is_none text then Ok [] else decoded number text (decode_of text)
