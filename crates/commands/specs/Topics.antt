-- What `help` explains: commands, words of their usages, and refusals. Assumes nothing.
use Rattle.std.specs.Prelude.{ℕ, List, [], ◌∷◌, ◌++◌, codes, Option, Some, None, option_map, nat_eq, if◌then◌else◌, ◌≡◌}
use Rattle.std.specs.Fmt.{decimal}
use Rattle.std.specs.List.{find}
use Rattle.std.specs.Cmp.Lexicographic.{pointwise}
use Rattle.view.specs.Answers.{number_of}
use Rattle.view.specs.Printed.{joined}
use Rattle.view.specs.declared.layout.Refusal.{Refusal}
use Rattle.view.specs.declared.layout.Refusal.TheVariants as refusal
use Rattle.commands.specs.declared.kind.Kind.{Kind}
use Rattle.commands.specs.declared.kind.Kind.TheVariants.{TooManyAxes, LengthsDiffer, OutOfRange, WrongLength, BadAxis, BadExtent, BadIndex, TooManyPositions, ShortScratch, ShortOutput, NotARecord, ExtentsDiffer, ShortReadings, NotDistinct, EmptyAxis, LongAxis}
use Rattle.commands.specs.declared.usage_word.UsageWord.{UsageWord}
use Rattle.commands.specs.declared.usage_word.UsageWord.TheVariants as usage
use Rattle.commands.specs.declared.topic.Topic.{Topic}
use Rattle.commands.specs.declared.topic.Topic.TheVariants as topic
use Rattle.commands.specs.Commands.{commands, named, name_of, help_line}

-- ---- refusals

-- a refusal whatever its values: its number, the names of its values, and what it says
pub record KindTexts : Type 0 where
  pub number : List ℕ
  pub values : List ℕ
  pub meaning : List ℕ

unfoldable pub kind_texts : Kind → KindTexts
kind_texts TooManyAxes = record { number = codes "1"; values = []; meaning = codes "more than 16 axes or entries; the layout and each list of axes have at most 16" }
kind_texts LengthsDiffer = record { number = codes "2"; values = []; meaning = codes "the lists differ in length; give as many strides as extents, and to order an OUTLEN of as many places as strides" }
kind_texts OutOfRange = record { number = codes "3"; values = []; meaning = codes "an offset would lie outside the buffer, or a number does not fit 64 bits; look at LEN, OFFSET and each stride x (extent - 1)" }
kind_texts WrongLength = record { number = codes "4"; values = codes " A B"; meaning = codes "a list and the axes of the layout differ in number: A and B; permute and offset have A entries for B axes, broadcast has B entries for A axes" }
kind_texts BadAxis = record { number = codes "5"; values = codes " AXIS RANK"; meaning = codes "axis AXIS is outside the rank RANK, or named twice; axes are numbered from 0" }
kind_texts BadExtent = record { number = codes "6"; values = codes " AXIS"; meaning = codes "the extent of axis AXIS is neither its target nor 1; only an axis of extent 1 is stretched" }
kind_texts BadIndex = record { number = codes "7"; values = codes " AXIS"; meaning = codes "the index of axis AXIS is not below its extent; indices are counted from 0" }
kind_texts TooManyPositions = record { number = codes "8"; values = []; meaning = codes "more than 2^64 - 1 positions; look at the extents" }
kind_texts ShortScratch = record { number = codes "9"; values = codes " WORDS"; meaning = codes "WORDS words of scratch are needed; lend as many (a line lends at most 65536), or leave WORDS out" }
kind_texts ShortOutput = record { number = codes "10"; values = codes " ROOM"; meaning = codes "an output of ROOM is needed, in bytes of a record or in readings of means; give at least as many as ROOM" }
kind_texts NotARecord = record { number = codes "11"; values = []; meaning = codes "the bytes are not a record; no whole one stands at their beginning, or its verdict is false" }
kind_texts ExtentsDiffer = record { number = codes "12"; values = []; meaning = codes "the two layouts differ in extents; give the current layout and the held one the same extents, in the same order" }
kind_texts ShortReadings = record { number = codes "13"; values = []; meaning = codes "a buffer is shorter than its layout needs; give each layout as many readings as its highest offset + 1" }
kind_texts NotDistinct = record { number = codes "14"; values = []; meaning = codes "the verdict on the destination is not distinct; hold a layout that verdict answers with distinct" }
kind_texts EmptyAxis = record { number = codes "15"; values = []; meaning = codes "the extent along the axis is 0; means are taken along an axis of extent 1 to 65536" }
kind_texts LongAxis = record { number = codes "16"; values = []; meaning = codes "the extent along the axis is above 65536; means are taken along an axis of extent 1 to 65536" }

-- the answer with the names of its values, and what it says
unfoldable pub kind_line : Kind → List ℕ
kind_line kind = codes "refused " ++ (kind_texts kind).number ++ (kind_texts kind).values ++ codes ": " ++ (kind_texts kind).meaning

-- every refusal, by its number
abbrev pub kinds : List Kind
kinds =
    TooManyAxes ∷ LengthsDiffer ∷ OutOfRange ∷ WrongLength ∷ BadAxis ∷ BadExtent ∷ BadIndex ∷ TooManyPositions
    ∷ ShortScratch ∷ ShortOutput ∷ NotARecord ∷ ExtentsDiffer ∷ ShortReadings ∷ NotDistinct ∷ EmptyAxis ∷ LongAxis ∷ []

-- the refusal with a number
abbrev pub kind_named : List ℕ → Option Kind
kind_named name = find (λ kind. pointwise nat_eq (kind_texts kind).number name) kinds

-- ---- words of usages

-- a word as usages write it, and what it is
pub record WordTexts : Type 0 where
  pub name : List ℕ
  pub meaning : List ℕ

unfoldable pub word_texts : UsageWord → WordTexts
word_texts usage.Len = record { name = codes "LEN"; meaning = codes "the length of the buffer, a number from 0 to 18446744073709551615, as 24" }
word_texts usage.OutLen = record { name = codes "OUTLEN"; meaning = codes "how many places the output has, a number from 0 to 18446744073709551615, as 2" }
word_texts usage.Offset = record { name = codes "OFFSET"; meaning = codes "the number of the cell where all indices are 0, from -9223372036854775808 to 9223372036854775807, as 0" }
word_texts usage.Extents = record { name = codes "EXTENTS"; meaning = codes "an extent for each axis, numbers from 0 to 18446744073709551615 with commas between them, at most 64, as 4,6; - for none" }
word_texts usage.Strides = record { name = codes "STRIDES"; meaning = codes "a stride for each axis, numbers from -9223372036854775808 to 9223372036854775807 with commas between them, at most 64, as 1,-4; - for none" }
word_texts usage.List = record { name = codes "LIST"; meaning = codes "numbers from 0 to 18446744073709551615 with commas between them, at most 64, as 1,0; - for none" }
word_texts usage.Pairs = record { name = codes "PAIRS"; meaning = codes "pairs a:b of axes with commas between them, at most 64, as 0:1,1:2; - for none" }
word_texts usage.From = record { name = codes "FROM"; meaning = codes "readings to copy, numbers from -2147483648 to 2147483647 with commas between them, at most 64, as 7,-8; - for none" }
word_texts usage.To = record { name = codes "TO"; meaning = codes "readings to copy into, numbers from -2147483648 to 2147483647 with commas between them, at most 64, as 0,0; - for none" }
word_texts usage.Axis = record { name = codes "AXIS"; meaning = codes "the axis to take means along, counted from 0, a number from 0 to 18446744073709551615, as 1" }
word_texts usage.Readings = record { name = codes "READINGS"; meaning = codes "readings to take means of, numbers from -2147483648 to 2147483647 with commas between them, at most 64, as 7,-8; - for none" }
word_texts usage.Bytes = record { name = codes "BYTES"; meaning = codes "two hexadecimal digits for each byte and nothing between them, as 00ff; - for none" }
word_texts usage.Words = record { name = codes "WORDS"; meaning = codes "how many words of scratch to lend, a number from 0 to 65536, as 1024; left out, as many as are needed" }
word_texts usage.Room = record { name = codes "ROOM"; meaning = codes "how much output to lend, in bytes of a record or in readings of means, a number from 0 to 65536, as 64" }
word_texts usage.Command = record { name = codes "COMMAND"; meaning = codes "the name of a command, as new" }
word_texts usage.Topic = record { name = codes "TOPIC"; meaning = codes "what help explains: a command, as new; a word of a usage, as LIST; words; refused; or a number from 1 to 16" }

unfoldable pub word_line : UsageWord → List ℕ
word_line word = (word_texts word).name ++ codes ": " ++ (word_texts word).meaning

-- every word of a usage
abbrev pub usage_words : List UsageWord
usage_words =
    usage.Len ∷ usage.OutLen ∷ usage.Offset ∷ usage.Extents ∷ usage.Strides ∷ usage.List ∷ usage.Pairs
    ∷ usage.From ∷ usage.To ∷ usage.Axis ∷ usage.Readings ∷ usage.Bytes ∷ usage.Words ∷ usage.Room ∷ usage.Command ∷ usage.Topic ∷ []

-- the word that usages write so
abbrev pub word_named : List ℕ → Option UsageWord
word_named name = find (λ word. pointwise nat_eq (word_texts word).name name) usage_words

-- ---- topics

-- the word behind `help`
unfoldable pub topic_name : Topic → List ℕ
topic_name (topic.Command command) = name_of command
topic_name (topic.Word word) = (word_texts word).name
topic_name topic.Words = codes "words"
topic_name (topic.Refusal kind) = (kind_texts kind).number
topic_name topic.Refusals = codes "refused"

-- what `help` answers; of more than one, each on a line (10)
unfoldable pub topic_text : Topic → List ℕ
topic_text (topic.Command command) = help_line command
topic_text (topic.Word word) = word_line word
topic_text topic.Words = joined (10 ∷ []) word_line usage_words
topic_text (topic.Refusal kind) = kind_line kind
topic_text topic.Refusals = joined (10 ∷ []) kind_line kinds

-- where to go on from `help` alone
abbrev pub more_help : List ℕ
more_help = codes "help new, help LIST and help 3 explain a command, a word of a usage, a refusal; help words and help refused explain all words, all refusals"

abbrev pub last_help : List ℕ
last_help = codes "docs/COMMANDS.md says more; the program ends when its input ends (at a terminal by Ctrl-D)"

-- what `help` alone answers: each command, and where to go on
unfoldable pub all_help : List ℕ
all_help = joined (10 ∷ []) help_line commands ++ 10 ∷ (more_help ++ 10 ∷ last_help)

abbrev pub spelled_as_word : List ℕ → Option Topic
spelled_as_word name = option_map topic.Word (word_named name)

abbrev pub spelled_as_number : List ℕ → Option Topic
spelled_as_number name = elim (kind_named name) [
  | None ↦ spelled_as_word name
  | Some kind ↦ Some (topic.Refusal kind)
]

abbrev pub spelled_in_words : List ℕ → Option Topic
spelled_in_words name =
    if pointwise nat_eq name (codes "refused") then Some topic.Refusals
    else if pointwise nat_eq name (codes "words") then Some topic.Words
    else spelled_as_number name

-- the topic with a name
unfoldable pub topic_named : List ℕ → Option Topic
topic_named name = elim (named name) [
  | None ↦ spelled_in_words name
  | Some command ↦ Some (topic.Command command)
]

-- each topic is found by its name, so no two have one name
abbrev pub EachTopicIsNamed : Type 0
EachTopicIsNamed = (topic : Topic) → topic_named (topic_name topic) ≡ Some topic

-- a refusal without its values
abbrev pub kind_of : Refusal → Kind
kind_of refusal.TooManyAxes = TooManyAxes
kind_of refusal.LengthsDiffer = LengthsDiffer
kind_of refusal.OutOfRange = OutOfRange
kind_of (refusal.WrongLength a b) = WrongLength
kind_of (refusal.BadAxis axis rank) = BadAxis
kind_of (refusal.BadExtent axis) = BadExtent
kind_of (refusal.BadIndex axis) = BadIndex
kind_of refusal.TooManyPositions = TooManyPositions
kind_of (refusal.ShortScratch words) = ShortScratch
kind_of (refusal.ShortOutput needed) = ShortOutput
kind_of refusal.NotARecord = NotARecord
kind_of refusal.ExtentsDiffer = ExtentsDiffer
kind_of refusal.ShortReadings = ShortReadings
kind_of refusal.NotDistinct = NotDistinct
kind_of refusal.EmptyAxis = EmptyAxis
kind_of refusal.LongAxis = LongAxis

-- the number that the answer to a refusal has is the name of its topic
abbrev pub EachRefusalIsNamed : Type 0
EachRefusalIsNamed = (why : Refusal) → topic_named (decimal (number_of why)) ≡ Some (topic.Refusal (kind_of why))
