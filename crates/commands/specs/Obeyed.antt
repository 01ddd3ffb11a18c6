-- What a command answers, and the layouts after it: each by the definition of the call that it makes. Assumes nothing.
use Rattle.std.specs.Prelude.{ℕ, ℤ, List, ◌==◌, length, take, codes, Option, Some, None, Ok, Err, if◌then◌else◌}
use Rattle.std.specs.Fmt.{decimal, signed_decimal}
use Rattle.specification.specs.Axis.{axes_of_lists}
use Rattle.specification.specs.Outcome.{Outcome}
use Rattle.specification.specs.Layout.{LayoutModel}
use Rattle.specification.specs.CheckIn.{check_in}
use Rattle.specification.specs.Views.{permute, broadcast, diagonal_view}
use Rattle.specification.specs.Normal.{normal_form}
use Rattle.specification.specs.Verdict.{Judged, verdict}
use Rattle.specification.specs.Record.{written, read_of, rest_of}
use Rattle.specification.specs.Beside.{col_major, row_major, index_order, indexed_offset}
use Rattle.view.specs.Model.{model_from, first_axes}
use Rattle.view.specs.Ties.{pairs_in}
use Rattle.record.specs.Reading.{layout_read}
use Rattle.injectivity.specs.Judgement.{axes_judged, told_of}
use Rattle.injectivity.specs.Text.{verdict_text}
use Rattle.commands.specs.declared.command.Command.{Command}
use Rattle.commands.specs.declared.command.Command.TheVariants as command
use Rattle.commands.specs.declared.command.Change.{Change}
use Rattle.commands.specs.declared.command.Change.TheVariants.{New, Set, Permute, Diagonal, Broadcast, Read}
use Rattle.commands.specs.declared.command.Query.{Query}
use Rattle.commands.specs.declared.command.Query.TheVariants.{Bounds, Show, Draw, Offset, Normal, Verdict, Injective, Copy, Means, Record, Rest, Order, Column, Row, Help}
use Rattle.words.specs.declared.fault.Form.TheVariants.{Unsigned, Signed, Pair, Lent}
use Rattle.commands.specs.Commands.{named, usage_of}
use Rattle.commands.specs.Layouts.{Layouts}
use Rattle.commands.specs.Topics.{topic_named, topic_text, all_help}
use Rattle.commands.specs.Replies.{bytes_text}
use Rattle.commands.specs.Told.{told, told_after}
use Rattle.commands.specs.Scratch.{words_given, or_most}
use Rattle.commands.specs.Readings.{copied_text, means_text}
use Rattle.drawing.specs.Drawn.{Picture, picture, too_many, drawn}
use Rattle.view.specs.Printed.{list_text, layout_text}
use Rattle.words.specs.Spelled.{unsigned, signed, lent, pair}
use Rattle.words.specs.Texts.{unknown_command, unknown_topic, unequal_lists, too_many_to_draw}
use Rattle.words.specs.Words.{Told, ◌>>=◌, Numbered, no_word, one_word, two_words, three_words, four_words, up_to_one_word, one_or_two_words, two_or_three_words, one_of, list_of, bytes_of}

-- ---- the commands that change the layout

-- LEN OFFSET EXTENTS STRIDES
unfoldable pub four_parts : Numbered × Numbered × Numbered × Numbered → Told (ℕ × ℤ × List ℕ × List ℤ)
four_parts (len, offset, extents, strides) = do
  len ← one_of unsigned Unsigned len
  offset ← one_of signed Signed offset
  extents ← list_of unsigned Unsigned extents
  strides ← list_of signed Signed strides
  Ok (len, offset, extents, strides)

unfoldable pub new_layout : Numbered × Numbered × Numbered × Numbered → Told LayoutModel
new_layout four = do
  parts ← four_parts four
  told (check_in parts.0 parts.1 parts.2 parts.3)

-- a layout of any rank without check-in, of lists of one length: the first 16 axes of the lists, and any past them with extent and stride 0
unfoldable pub unchecked : ℕ → ℤ → List ℕ → List ℤ → Told LayoutModel
unchecked len offset extents strides =
    if length extents == length strides then Ok (model_from len offset (first_axes (axes_of_lists (take 16 extents) (take 16 strides)) (length extents)))
    else Err unequal_lists

unfoldable pub set_layout : Numbered × Numbered × Numbered × Numbered → Told LayoutModel
set_layout four = do
  parts ← four_parts four
  unchecked parts.0 parts.1 parts.2 parts.3

unfoldable pub permuted : LayoutModel → Numbered → Told LayoutModel
permuted l order = do
  order ← list_of unsigned Unsigned order
  told_after (permute l order)

unfoldable pub tied : LayoutModel → Numbered → Told LayoutModel
tied l pairs = do
  pairs ← list_of pair Pair pairs
  told_after (diagonal_view l (pairs_in pairs))

unfoldable pub stretched : LayoutModel → Numbered → Told LayoutModel
stretched l targets = do
  targets ← list_of unsigned Unsigned targets
  told_after (broadcast l targets)

unfoldable pub read_layout : Numbered × Option Numbered → Told LayoutModel
read_layout (bytes, words) = do
  bytes ← bytes_of bytes
  words ← words_given words
  told (layout_read (read_of bytes (or_most words)))

-- the layout after a command that changes it, of the words behind the name
unfoldable pub next_layout : LayoutModel → Change → List ℕ → List (List ℕ) → Told LayoutModel
next_layout l New usage words = do
  four ← four_words usage words
  new_layout four
next_layout l Set usage words = do
  four ← four_words usage words
  set_layout four
next_layout l Permute usage words = do
  order ← one_word usage words
  permuted l order
next_layout l Diagonal usage words = do
  pairs ← one_word usage words
  tied l pairs
next_layout l Broadcast usage words = do
  targets ← one_word usage words
  stretched l targets
next_layout l Read usage words = do
  two ← one_or_two_words usage words
  read_layout two

-- ---- the commands that answer and leave the layout

unfoldable pub bounds_text : Numbered × Numbered × Numbered × Numbered → Told (List ℕ)
bounds_text four = do
  parts ← four_parts four
  l ← told (check_in parts.0 parts.1 parts.2 parts.3)
  Ok (codes "ok")

unfoldable pub offset_text : LayoutModel → Numbered → Told (List ℕ)
offset_text l index = do
  index ← list_of unsigned Unsigned index
  offset ← told (indexed_offset l index)
  Ok (signed_decimal offset)

-- a picture, or the error of a layout with too many positions
abbrev pub drawn_or_told : Picture → Told (List ℕ)
drawn_or_told (picture text) = Ok text
drawn_or_told (too_many count) = Err (too_many_to_draw count)

unfoldable pub drawn_text : LayoutModel → Told (List ℕ)
drawn_text l = do
  drawn ← told (drawn l)
  drawn_or_told drawn

unfoldable pub normal_text : LayoutModel → Told (List ℕ)
normal_text l = do
  form ← told (normal_form l)
  Ok (layout_text form)

-- a verdict and its count, or a refusal
unfoldable pub judged_text : Outcome Judged → Told (List ℕ)
judged_text outcome = do
  j ← told (told_of outcome)
  Ok (verdict_text j.answer j.count)

unfoldable pub verdict_of : LayoutModel → Option Numbered → Told (List ℕ)
verdict_of l words = do
  words ← words_given words
  judged_text (axes_judged l.axes (or_most words))

unfoldable pub injective_text : Numbered × Numbered × Option Numbered → Told (List ℕ)
injective_text (extents, strides, words) = do
  extents ← list_of unsigned Unsigned extents
  strides ← list_of signed Signed strides
  words ← words_given words
  judged_text (verdict extents strides (or_most words))

unfoldable pub record_text : LayoutModel → Numbered × Option Numbered → Told (List ℕ)
record_text l (room, words) = do
  room ← one_of lent Lent room
  words ← words_given words
  made ← told (written l room.0 (or_most words))
  Ok (bytes_text made.bytes)

unfoldable pub rest_text : Numbered → Told (List ℕ)
rest_text bytes = do
  bytes ← bytes_of bytes
  Ok (bytes_text (rest_of bytes))

unfoldable pub order_text : Numbered × Numbered → Told (List ℕ)
order_text (strides, places) = do
  strides ← list_of signed Signed strides
  places ← one_of unsigned Unsigned places
  order ← told (index_order strides places)
  Ok (list_text decimal order)

-- dense strides by a rule
unfoldable pub dense_text : (List ℕ → Outcome (List ℤ)) → Numbered → Told (List ℕ)
dense_text rule extents = do
  extents ← list_of unsigned Unsigned extents
  strides ← told (rule extents)
  Ok (list_text signed_decimal strides)

-- each command, or one topic
unfoldable pub help_text : Option Numbered → Told (List ℕ)
help_text None = Ok all_help
help_text (Some (number, name)) = elim (topic_named name) [
  | None ↦ Err (unknown_topic number name)
  | Some topic ↦ Ok (topic_text topic)
]

-- what a command prints that leaves the layouts, of the words behind the name
unfoldable pub answer_text : Layouts → Query → List ℕ → List (List ℕ) → Told (List ℕ)
answer_text ls Bounds usage words = do
  four ← four_words usage words
  bounds_text four
answer_text ls Show usage words = do
  none ← no_word usage words
  Ok (layout_text ls.current)
answer_text ls Draw usage words = do
  none ← no_word usage words
  drawn_text ls.current
answer_text ls Offset usage words = do
  index ← one_word usage words
  offset_text ls.current index
answer_text ls Normal usage words = do
  none ← no_word usage words
  normal_text ls.current
answer_text ls Verdict usage words = do
  scratch ← up_to_one_word usage words
  verdict_of ls.current scratch
answer_text ls Injective usage words = do
  three ← two_or_three_words usage words
  injective_text three
answer_text ls Copy usage words = do
  three ← two_or_three_words usage words
  copied_text ls three
answer_text ls Means usage words = do
  three ← three_words usage words
  means_text ls.current three
answer_text ls Record usage words = do
  two ← one_or_two_words usage words
  record_text ls.current two
answer_text ls Rest usage words = do
  bytes ← one_word usage words
  rest_text bytes
answer_text ls Order usage words = do
  two ← two_words usage words
  order_text two
answer_text ls Column usage words = do
  extents ← one_word usage words
  dense_text col_major extents
answer_text ls Row usage words = do
  extents ← one_word usage words
  dense_text row_major extents
answer_text ls Help usage words = do
  topic ← up_to_one_word usage words
  help_text topic

-- ---- a line

-- a text to print, and the layouts afterwards
pub record Answered : Type 0 where
  pub text : List ℕ
  pub layouts : Layouts

-- the layout that a command made is the current one; the held one stays
abbrev pub changed : Layouts → LayoutModel → Answered
changed ls next = record { text = codes "ok"; layouts = record { current = next; held = ls.held } }

-- the current layout is held; it stays the current one
abbrev pub kept : Layouts → Answered
kept ls = record { text = codes "ok"; layouts = record { current = ls.current; held = ls.current } }

-- both layouts stay
abbrev pub asked : Layouts → List ℕ → Answered
asked ls text = record { text = text; layouts = ls }

-- a command with the words behind its name
unfoldable pub run : Layouts → Command → List (List ℕ) → Told Answered
run ls (command.Change change) words = do
  next ← next_layout ls.current change (usage_of (command.Change change)) words
  Ok (changed ls next)
run ls command.Hold words = do
  none ← no_word (usage_of command.Hold) words
  Ok (kept ls)
run ls (command.Query query) words = do
  text ← answer_text ls query (usage_of (command.Query query)) words
  Ok (asked ls text)

-- a line by its name and the words behind it
unfoldable pub obeyed : Layouts → List ℕ → List (List ℕ) → Told Answered
obeyed ls name words = elim (named name) [
  | None ↦ Err (unknown_command 1 name)
  | Some command ↦ run ls command words
]
