-- What the fields of a table are to its callers, and what they keep.
use Rattle.enumeration.specs.Homes.{Held, numbers_in, free_behind, IsPlaced}
use Rattle.enumeration.specs.declared.table.Table.TheInside.{Inside}

-- the words that are not free, and how many are free behind the homes
abbrev pub view_of : Inside → Held
view_of t = record { numbers = numbers_in t.words.now; room = free_behind t.homes t.words.now }

-- a number that the words hold is found from its home on, and none is above `most`
abbrev pub IsSound : Inside → Type 0
IsSound t = IsPlaced t.homes t.words.now t.most
