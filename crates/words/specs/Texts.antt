-- What is printed of a fault and of a list, byte by byte. Assumes nothing.
use Rattle.std.specs.Prelude.{ℕ, Bool, true, false, not, ◌&&◌, ◌||◌, List, [], ◌∷◌, ◌++◌, ◌==◌, codes, take, length, nat_eq, nat_lt, if◌then◌else◌}
use Rattle.std.specs.Char.{is_ascii_digit}
use Rattle.std.specs.Cmp.Lexicographic.{pointwise}
use Rattle.std.specs.List.{flat_map, list_all}
use Rattle.std.specs.Fmt.{decimal}
use Rattle.bstr.specs.Escape.{escaped}
use Rattle.view.specs.Answers.{number_of, values_of}
use Rattle.view.specs.declared.layout.Refusal.{Refusal}
use Rattle.words.specs.Shown.{shown}
use Rattle.words.specs.declared.place.Place.{Place}
use Rattle.words.specs.declared.place.Place.TheVariants as place
use Rattle.words.specs.declared.fault.Form.{Form}
use Rattle.words.specs.declared.fault.Form.TheVariants.{Unsigned, Signed, Pair, Lent, Reading}
use Rattle.words.specs.declared.fault.Fault.{Fault}
use Rattle.words.specs.declared.fault.Fault.TheVariants.{LongLine, UnknownCommand, UnknownTopic, WordCount, UnequalLists, Misspelled, ManyEntries, OddDigits, BadDigit, TooManyToDraw, Refused}

-- ---- where a fault is

-- a word as an error shows it: its first 32 bytes, what cannot be seen among them escaped, and `..` if there are more
unfoldable pub excerpt : List ℕ → List ℕ
excerpt text = flat_map shown (escaped (take 32 text)) ++ (if nat_lt 32 (length text) then codes ".." else [])

-- a number from 1 on, and what stands there
abbrev pub at_number : ℕ → List ℕ → List ℕ
at_number number text = decimal number ++ codes " (" ++ excerpt text ++ codes ")"

-- a word of the line
unfoldable pub at_word : ℕ → List ℕ → List ℕ
at_word number text = codes "word " ++ at_number number text

-- an entry of the list that a word is
unfoldable pub at_entry : ℕ → ℕ → List ℕ → List ℕ
at_entry word number text = codes "word " ++ decimal word ++ codes ", entry " ++ at_number number text

abbrev pub place_text : Place → List ℕ
place_text (place.Word w) = at_word w.number w.text.now
place_text (place.Entry word w) = at_entry word w.number w.text.now

-- ---- what is wrong with it

-- a text without the `-` (45) in front
abbrev pub without_minus : List ℕ → List ℕ
without_minus [] = []
without_minus (first ∷ rest) = if first == 45 then rest else first ∷ rest

-- a number, however large: one digit or more, with or without `-` in front
unfoldable pub is_number : List ℕ → Bool
is_number text = not (length (without_minus text) == 0) && list_all is_ascii_digit (without_minus text)

-- what is wrong with a text that does not spell what should stand there, by whether it is a number
unfoldable pub misfit : Form → Bool → List ℕ
misfit Unsigned true = codes " is outside the range from 0 to 18446744073709551615"
misfit Unsigned false = codes " is no number: write digits, as 24"
misfit Signed true = codes " is outside the range from -9223372036854775808 to 9223372036854775807"
misfit Signed false = codes " is no number: write digits, as 24 or -24"
misfit Pair number = codes " is no pair of axes: write a:b, as 0:1"
misfit Lent true = codes " is outside the range from 0 to 65536"
misfit Lent false = codes " is no number: write digits, as 24"
misfit Reading true = codes " is outside the range from -2147483648 to 2147483647"
misfit Reading false = codes " is no number: write digits, as 24 or -24"

-- an entry that is no number may be several that have no commas between them
unfoldable pub commas : Bool → List ℕ
commas true = []
commas false = codes ", and commas between the entries"

-- ---- faults

-- a refusal by its number and the values returned with it
unfoldable pub refusal_text : ℕ → List ℕ → List ℕ
refusal_text number values = codes "refused " ++ decimal number ++ flat_map (λ value. 32 ∷ decimal value) values

abbrev pub told_refusal : Refusal → List ℕ
told_refusal why = refusal_text (number_of why) (values_of why)

unfoldable pub long_line : List ℕ
long_line = codes "error: the line is longer than 4096 bytes"

-- the words with which other programs end
unfoldable pub is_farewell : List ℕ → Bool
is_farewell name =
    pointwise nat_eq (codes "exit") name || pointwise nat_eq (codes "quit") name
    || pointwise nat_eq (codes "end") name || pointwise nat_eq (codes "bye") name

-- where to go on from a name of no command, by whether it is one of these words
unfoldable pub way_on : Bool → List ℕ
way_on true = codes "to end, end the input (Ctrl-D at a terminal)"
way_on false = codes "help lists the commands"

unfoldable pub unknown_command : ℕ → List ℕ → List ℕ
unknown_command number text = codes "error: " ++ at_word number text ++ codes " is no command; " ++ way_on (is_farewell text)

unfoldable pub unknown_topic : ℕ → List ℕ → List ℕ
unknown_topic number text = codes "error: " ++ at_word number text ++ codes " is no topic of help; topics are the commands, the words of their usages (as LIST), words, refused, and the numbers from 1 to 16"

-- how many words a command takes behind its name; if the two numbers differ, the last word may be left out
abbrev pub wanted : ℕ → ℕ → List ℕ
wanted least most = if least == most then decimal most else decimal least ++ codes " or " ++ decimal most

-- how many words stand behind the name; no command takes more than 4, and more than these are not counted
abbrev pub given : ℕ → List ℕ
given count = if nat_lt 4 count then codes "more than 4" else decimal count

-- a list with a space in it is two words; this is said if there are too many words and the command takes any
abbrev pub no_space : ℕ → ℕ → List ℕ
no_space most count = if nat_lt 0 most && nat_lt most count then codes " (no space within a list)" else []

-- fewer or more words than a command takes
unfoldable pub word_count : List ℕ → ℕ → ℕ → ℕ → List ℕ
word_count usage least most count =
    codes "error: wrong number of words behind the name: " ++ wanted least most ++ codes " wanted, " ++ given count ++ codes " given" ++ no_space most count
    ++ codes "; usage: " ++ usage

unfoldable pub unequal_lists : List ℕ
unequal_lists = codes "error: set takes as many strides as extents: words 4 and 5"

-- what stands at a place is not what should
unfoldable pub misspelled_word : ℕ → List ℕ → Form → List ℕ
misspelled_word number text form = codes "error: " ++ at_word number text ++ misfit form (is_number text)

unfoldable pub misspelled_entry : ℕ → ℕ → List ℕ → Form → List ℕ
misspelled_entry word number text form = codes "error: " ++ at_entry word number text ++ misfit form (is_number text) ++ commas (is_number text)

unfoldable pub many_entries : ℕ → List ℕ → List ℕ
many_entries number text = codes "error: " ++ at_word number text ++ codes " has more than 64 entries"

unfoldable pub odd_digits : ℕ → List ℕ → List ℕ
odd_digits number text = codes "error: " ++ at_word number text ++ codes " has an odd number of hexadecimal digits; a byte is two"

unfoldable pub bad_digit : ℕ → List ℕ → List ℕ
bad_digit number text = codes "error: " ++ at_word number text ++ codes " is not hexadecimal; a byte is two digits 0 to 9 or a to f, as 0f"

unfoldable pub too_many_to_draw : ℕ → List ℕ
too_many_to_draw count = codes "error: draw shows at most 200 positions; the layout has " ++ decimal count

-- the line that a fault is answered with
abbrev pub fault_text : Fault → List ℕ
fault_text LongLine = long_line
fault_text (UnknownCommand w) = unknown_command w.number w.text.now
fault_text (UnknownTopic w) = unknown_topic w.number w.text.now
fault_text (WordCount m) = word_count m.usage.now m.least m.most m.given
fault_text UnequalLists = unequal_lists
fault_text (Misspelled (place.Word w) form) = misspelled_word w.number w.text.now form
fault_text (Misspelled (place.Entry word w) form) = misspelled_entry word w.number w.text.now form
fault_text (ManyEntries w) = many_entries w.number w.text.now
fault_text (OddDigits w) = odd_digits w.number w.text.now
fault_text (BadDigit w) = bad_digit w.number w.text.now
fault_text (TooManyToDraw count) = too_many_to_draw count
fault_text (Refused why) = told_refusal why
