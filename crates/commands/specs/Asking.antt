-- Which lines may ask for memory, by the words behind the name; of every other line the answer or the fault is found, whatever memory there is (printing it is another matter). Assumes nothing.
use Rattle.std.specs.Prelude.{ℕ, Bool, true, false, ◌&&◌, List, [], ◌∷◌, Option, Some, None, is_some}
use Rattle.commands.specs.declared.command.Command.{Command}
use Rattle.commands.specs.declared.command.Command.TheVariants as command
use Rattle.commands.specs.declared.command.Change.{Change}
use Rattle.commands.specs.declared.command.Change.TheVariants.{New, Set, Permute, Diagonal, Broadcast, Read}
use Rattle.commands.specs.declared.command.Query.{Query}
use Rattle.commands.specs.declared.command.Query.TheVariants.{Bounds, Offset, Verdict, Injective, Copy, Means, Record, Rest, Order, Column, Row}
use Rattle.commands.specs.Commands.{named}
use Rattle.words.specs.Spelled.{unsigned, signed, lent}
use Rattle.words.specs.Words.{Numbered}

-- LEN and OFFSET are read before the lists
abbrev pub are_placed : List ℕ → List ℕ → Bool
are_placed len offset = is_some (unsigned len) && is_some (signed offset)

-- ROOM; WORDS may be left out
abbrev pub is_lent : List ℕ → Bool
is_lent text = is_some (lent text)

abbrev pub is_lent_if : Option Numbered → Bool
is_lent_if None = true
is_lent_if (Some w) = is_lent w.1

-- a command that changes the layout, with as many words as it takes: memory is for its lists and its bytes
unfoldable pub change_asks : Change → List (List ℕ) → Bool
change_asks New (len ∷ offset ∷ extents ∷ strides ∷ []) = are_placed len offset
change_asks Set (len ∷ offset ∷ extents ∷ strides ∷ []) = are_placed len offset
change_asks Permute (order ∷ []) = true
change_asks Diagonal (pairs ∷ []) = true
change_asks Broadcast (targets ∷ []) = true
change_asks Read (bytes ∷ []) = true
change_asks Read (bytes ∷ words ∷ []) = true
change_asks other words = false

-- a command that leaves the layout, with as many words as it takes: memory is for its lists, its bytes, its means and its scratch; `show`, `draw`, `normal` and `help` want none
unfoldable pub query_asks : Query → List (List ℕ) → Bool
query_asks Bounds (len ∷ offset ∷ extents ∷ strides ∷ []) = are_placed len offset
query_asks Offset (index ∷ []) = true
query_asks Verdict [] = true
query_asks Verdict (words ∷ []) = is_lent words
query_asks Injective (extents ∷ strides ∷ []) = true
query_asks Injective (extents ∷ strides ∷ words ∷ []) = true
query_asks Copy (from ∷ to ∷ []) = true
query_asks Copy (from ∷ to ∷ words ∷ []) = true
query_asks Means (axis ∷ readings ∷ room ∷ []) = is_some (unsigned axis)
query_asks Record (room ∷ []) = is_lent room
query_asks Record (room ∷ words ∷ []) = is_lent room && is_lent words
query_asks Rest (bytes ∷ []) = true
query_asks Order (strides ∷ places ∷ []) = true
query_asks Column (extents ∷ []) = true
query_asks Row (extents ∷ []) = true
query_asks other words = false

-- a command with the words behind its name
abbrev pub asks_for_memory : Command → List (List ℕ) → Bool
asks_for_memory (command.Change change) words = change_asks change words
asks_for_memory command.Hold words = false
asks_for_memory (command.Query query) words = query_asks query words

-- a line by its name and the words behind it; a name of no command asks for none
abbrev pub line_asks : List ℕ → List (List ℕ) → Bool
line_asks name words = elim (named name) [
  | None ↦ false
  | Some command ↦ asks_for_memory command words
]
