-- The commands: their names, how each is used and what it does, and which of them a name means. Assumes nothing.
use Rattle.std.specs.Prelude.{ℕ, List, [], ◌∷◌, ◌++◌, codes, Option, Some, nat_eq, ◌≡◌}
use Rattle.std.specs.List.{find}
use Rattle.std.specs.Cmp.Lexicographic.{pointwise}
use Rattle.commands.specs.declared.command.Command.{Command}
use Rattle.commands.specs.declared.command.Command.TheVariants as command
use Rattle.commands.specs.declared.command.Change.TheVariants.{New, Set, Permute, Diagonal, Broadcast, Read}
use Rattle.commands.specs.declared.command.Query.TheVariants.{Bounds, Show, Draw, Offset, Normal, Verdict, Injective, Copy, Means, Record, Rest, Order, Column, Row, Help}

-- the word that a line begins with
unfoldable pub name_of : Command → List ℕ
name_of (command.Change New) = codes "new"
name_of (command.Query Bounds) = codes "bounds"
name_of (command.Change Set) = codes "set"
name_of (command.Query Show) = codes "show"
name_of command.Hold = codes "hold"
name_of (command.Query Draw) = codes "draw"
name_of (command.Change Permute) = codes "permute"
name_of (command.Change Diagonal) = codes "diagonal"
name_of (command.Change Broadcast) = codes "broadcast"
name_of (command.Query Offset) = codes "offset"
name_of (command.Query Normal) = codes "normal"
name_of (command.Query Verdict) = codes "verdict"
name_of (command.Query Injective) = codes "injective"
name_of (command.Query Copy) = codes "copy"
name_of (command.Query Means) = codes "means"
name_of (command.Query Record) = codes "record"
name_of (command.Change Read) = codes "read"
name_of (command.Query Rest) = codes "rest"
name_of (command.Query Order) = codes "order"
name_of (command.Query Column) = codes "column"
name_of (command.Query Row) = codes "row"
name_of (command.Query Help) = codes "help"

-- the name with the words that the command takes; those in brackets may be left out
unfoldable pub usage_of : Command → List ℕ
usage_of (command.Change New) = codes "new LEN OFFSET EXTENTS STRIDES"
usage_of (command.Query Bounds) = codes "bounds LEN OFFSET EXTENTS STRIDES"
usage_of (command.Change Set) = codes "set LEN OFFSET EXTENTS STRIDES"
usage_of (command.Query Show) = codes "show"
usage_of command.Hold = codes "hold"
usage_of (command.Query Draw) = codes "draw"
usage_of (command.Change Permute) = codes "permute LIST"
usage_of (command.Change Diagonal) = codes "diagonal PAIRS"
usage_of (command.Change Broadcast) = codes "broadcast LIST"
usage_of (command.Query Offset) = codes "offset LIST"
usage_of (command.Query Normal) = codes "normal"
usage_of (command.Query Verdict) = codes "verdict [WORDS]"
usage_of (command.Query Injective) = codes "injective EXTENTS STRIDES [WORDS]"
usage_of (command.Query Copy) = codes "copy FROM TO [WORDS]"
usage_of (command.Query Means) = codes "means AXIS READINGS ROOM"
usage_of (command.Query Record) = codes "record ROOM [WORDS]"
usage_of (command.Change Read) = codes "read BYTES [WORDS]"
usage_of (command.Query Rest) = codes "rest BYTES"
usage_of (command.Query Order) = codes "order STRIDES OUTLEN"
usage_of (command.Query Column) = codes "column EXTENTS"
usage_of (command.Query Row) = codes "row EXTENTS"
usage_of (command.Query Help) = codes "help [TOPIC]"

-- what the command does, or what it answers
unfoldable pub meaning_of : Command → List ℕ
meaning_of (command.Change New) = codes "check a layout in and make it current"
meaning_of (command.Query Bounds) = codes "check the bounds of a layout; the current one stays"
meaning_of (command.Change Set) = codes "make a layout current with no check; of more than 16 axes the first 16 are held"
meaning_of (command.Query Show) = codes "the current layout, as LEN OFFSET EXTENTS STRIDES"
meaning_of command.Hold = codes "keep the current layout as the held one, for copy"
meaning_of (command.Query Draw) = codes "the cells that the current layout reaches, each with the positions that share it; at most 200 positions"
meaning_of (command.Change Permute) = codes "put the axes into the order of the list"
meaning_of (command.Change Diagonal) = codes "tie the axes of each pair a:b into one"
meaning_of (command.Change Broadcast) = codes "stretch axes of extent 1 to the extents of the list"
meaning_of (command.Query Offset) = codes "the offset of an index vector"
meaning_of (command.Query Normal) = codes "the normal form; the current layout stays"
meaning_of (command.Query Verdict) = codes "whether two positions of the current layout share a cell, with WORDS words of scratch"
meaning_of (command.Query Injective) = codes "whether two positions of a layout of these extents and strides share a cell, with WORDS words of scratch"
meaning_of (command.Query Copy) = codes "copy readings FROM through the current layout into readings TO through the held one; the answer is TO afterwards"
meaning_of (command.Query Means) = codes "means of READINGS through the current layout along axis AXIS, into at most ROOM readings"
meaning_of (command.Query Record) = codes "the record of the current layout, in at most ROOM bytes"
meaning_of (command.Change Read) = codes "read a record and make its layout current"
meaning_of (command.Query Rest) = codes "what stands behind the record at the front"
meaning_of (command.Query Order) = codes "the index order of strides, into OUTLEN places"
meaning_of (command.Query Column) = codes "dense strides, the first axis the densest"
meaning_of (command.Query Row) = codes "dense strides, the last axis the densest"
meaning_of (command.Query Help) = codes "what a command does, a word of a usage is, or a refusal means; alone, every command"

-- what `help` says of a command
unfoldable pub help_line : Command → List ℕ
help_line command = usage_of command ++ codes ": " ++ meaning_of command

-- every command, in the order of `help`
abbrev pub commands : List Command
commands =
    command.Change New ∷ command.Query Bounds ∷ command.Change Set ∷ command.Query Show ∷ command.Hold ∷ command.Query Draw
    ∷ command.Change Permute ∷ command.Change Diagonal ∷ command.Change Broadcast ∷ command.Query Offset ∷ command.Query Normal
    ∷ command.Query Verdict ∷ command.Query Injective ∷ command.Query Copy ∷ command.Query Means ∷ command.Query Record
    ∷ command.Change Read ∷ command.Query Rest ∷ command.Query Order ∷ command.Query Column ∷ command.Query Row ∷ command.Query Help ∷ []

-- the command with a name
abbrev pub named : List ℕ → Option Command
named name = find (λ command. pointwise nat_eq (name_of command) name) commands

-- each command is found by its name: it stands in the list, and no other has its name
abbrev pub EachIsNamed : Type 0
EachIsNamed = (command : Command) → named (name_of command) ≡ Some command
