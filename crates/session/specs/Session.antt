-- What is written for all that is read, and whether each line was obeyed: stated functions of it (RULES, "The text program"). Assumes nothing.
use Rattle.std.specs.Prelude.{ℕ, Bool, true, false, List, [], ◌∷◌, ◌++◌, ◌==◌, ◌≢◌, ◌&&◌, nat_lt, length, if◌then◌else◌, pos, take, slice_get, Option, Some, None, IsSomeAnd, Ok, Err, not, ⊤}
use Rattle.std.specs.List.{find}
use Rattle.std.specs.Io.KnownBytes.{Appends}
use Rattle.specification.specs.Layout.{LayoutModel}
use Rattle.lines.specs.Lines.{lines_of}
use Rattle.lines.specs.Mark.{without_mark}
use Rattle.lines.specs.declared.failure.Failure.{Failure}
use Rattle.lines.specs.declared.failure.Failure.TheVariants.{Write, Memory}
use Rattle.words.specs.Texts.{long_line, fault_text}
use Rattle.words.specs.Words.{Told, is_space, words}
use Rattle.commands.specs.Replies.{reply_text}
use Rattle.commands.specs.Layouts.{Layouts}
use Rattle.commands.specs.Obeyed.{Answered, obeyed}
use Rattle.commands.specs.Asking.{line_asks}
use Rattle.session.specs.declared.session.Response.{Response}
use Rattle.session.specs.declared.session.Response.TheVariants.{Nothing, Reply, Fault}

-- what lines are answered, one or more: a text, the layouts afterwards, and whether none of them was answered with an error or a refusal
pub record AnsweredLines : Type 0 where
  pub text : List ℕ
  pub layouts : Layouts
  pub all_obeyed : Bool

abbrev pub begins_with : ℕ → List ℕ → Bool
begins_with byte [] = false
begins_with byte (first ∷ rest) = first == byte

-- an answer ends in a line feed (10)
abbrev pub text_of : Response → List ℕ
text_of Nothing = []
text_of (Reply reply) = reply_text reply ++ 10 ∷ []
text_of (Fault fault) = fault_text fault ++ 10 ∷ []

-- an error and a refusal are faults
abbrev pub no_fault : Response → Bool
no_fault (Fault fault) = false
no_fault other = true

-- nothing is answered, and there was nothing to obey
abbrev pub unanswered : Layouts → AnsweredLines
unanswered ls = record { text = []; layouts = ls; all_obeyed = true }

-- an answer ends in a line feed (10); a line that is not obeyed leaves both layouts
abbrev pub in_line : Layouts → Told Answered → AnsweredLines
in_line ls (Ok a) = record { text = a.text ++ 10 ∷ []; layouts = a.layouts; all_obeyed = true }
in_line ls (Err text) = record { text = text ++ 10 ∷ []; layouts = ls; all_obeyed = false }

-- a line by its words: one with none is blank, and one whose first word begins with `#` (35) is a comment
unfoldable pub by_words : Layouts → List (List ℕ) → AnsweredLines
by_words ls [] = unanswered ls
by_words ls (name ∷ words) = if begins_with 35 name then unanswered ls else in_line ls (obeyed ls name words)

-- the words of a line that asks for memory to be answered; what it then prints is not counted
abbrev pub words_ask : List (List ℕ) → Bool
words_ask [] = false
words_ask (name ∷ words) = if begins_with 35 name then false else line_asks name words

-- a line that is longer than 4,096 bytes, or not
abbrev pub by_length : Layouts → Bool → List ℕ → AnsweredLines
by_length ls true line = in_line ls (Err long_line)
by_length ls false line = by_words ls (words line)

-- a line that is seen to have no answer: its first byte that is no space is `#` (35), or there is none
abbrev pub is_silent : List ℕ → Bool
is_silent line = elim (find (λ byte. not (is_space byte)) line) [
  | None ↦ true
  | Some byte ↦ byte == 35
]

-- what a line is answered, and the layouts after it
unfoldable pub answered : Layouts → List ℕ → AnsweredLines
answered ls line = by_length ls (nat_lt 4096 (length line)) line

-- lines, and those behind them
abbrev pub followed : AnsweredLines → AnsweredLines → AnsweredLines
followed first rest = record { text = first.text ++ rest.text; layouts = rest.layouts; all_obeyed = first.all_obeyed && rest.all_obeyed }

-- what lines are answered, one after another, from two layouts on
unfoldable pub answered_in_order : Layouts → List (List ℕ) → AnsweredLines
answered_in_order ls [] = unanswered ls
answered_in_order ls (line ∷ lines) = followed (answered ls line) (answered_in_order (answered ls line).layouts lines)

-- what is written for lines from two layouts on, the layouts after them, and whether each was obeyed
abbrev pub written_for : Layouts → List (List ℕ) → List ℕ
written_for ls lines = (answered_in_order ls lines).text

abbrev pub layouts_after : Layouts → List (List ℕ) → Layouts
layouts_after ls lines = (answered_in_order ls lines).layouts

abbrev pub obeyed_for : Layouts → List (List ℕ) → Bool
obeyed_for ls lines = (answered_in_order ls lines).all_obeyed

-- a layout of one axis of extent 0
abbrev pub empty_layout : LayoutModel
empty_layout = record { buffer = 0; offset = pos 0; axes = record { extent = 0; stride = pos 0 } ∷ [] }

-- the layouts at the start: both are empty
abbrev pub empty_layouts : Layouts
empty_layouts = record { current = empty_layout; held = empty_layout }

-- the lines of all that is read; a byte order mark at its start is passed over
abbrev pub lines_in : List ℕ → List (List ℕ)
lines_in bytes = lines_of (without_mark bytes)

-- what is written for all that is read
unfoldable pub output_of : List ℕ → List ℕ
output_of bytes = written_for empty_layouts (lines_in bytes)

-- whether no line of all that is read is answered with an error or a refusal
unfoldable pub all_obeyed : List ℕ → Bool
all_obeyed bytes = obeyed_for empty_layouts (lines_in bytes)

-- the first k lines have been answered, each whole
abbrev pub AnswersFirst : ℕ → Option (List ℕ) → Option (List ℕ) → List (List ℕ) → Type 0
AnswersFirst k old new lines = Appends old new (written_for empty_layouts (take k lines))

-- there is a line behind the first k, and its answer has a text
abbrev pub HasAnswer : ℕ → List (List ℕ) → Type 0
HasAnswer k lines = IsSomeAnd (slice_get lines k) (λ line. (answered (layouts_after empty_layouts (take k lines)) line).text ≢ [])

-- unless it was a write that failed, the first lines have been answered, each whole; memory runs out only at a line whose answer has a text
abbrev pub Answers : Failure → Option (List ℕ) → Option (List ℕ) → List (List ℕ) → Type 0
Answers (Write error) old new lines = ⊤
Answers Memory old new lines = (k : ℕ) × AnswersFirst k old new lines × HasAnswer k lines
Answers other old new lines = (k : ℕ) × AnswersFirst k old new lines
