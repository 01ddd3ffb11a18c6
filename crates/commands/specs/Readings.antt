-- The commands that answer readings: what they are copied into, and their means. Assumes nothing.
use Rattle.std.specs.Prelude.{ℕ, List, length, Option, Ok}
use Rattle.std.specs.Fmt.{signed_decimal}
use Rattle.specification.specs.Outcome.{pass}
use Rattle.specification.specs.Layout.{LayoutModel}
use Rattle.copying.specs.Copy.{copy_refusal, copy_after}
use Rattle.means.specs.Means.{means_of, first_means}
use Rattle.commands.specs.Layouts.{Layouts}
use Rattle.commands.specs.Scratch.{words_given, or_most}
use Rattle.commands.specs.Told.{told}
use Rattle.view.specs.Printed.{list_text}
use Rattle.words.specs.declared.fault.Form.TheVariants.{Unsigned, Lent, Reading}
use Rattle.words.specs.Spelled.{unsigned, lent, reading}
use Rattle.words.specs.Words.{Told, ◌>>=◌, Numbered, one_of, list_of}

-- readings FROM through the current layout copied into readings TO through the held one: TO afterwards
unfoldable pub copied_text : Layouts → Numbered × Numbered × Option Numbered → Told (List ℕ)
copied_text ls (from, to, words) = do
  from ← list_of reading Reading from
  to ← list_of reading Reading to
  words ← words_given words
  copied ← told (copy_refusal ls.current ls.held (length from) (length to) (or_most words))
  Ok (list_text signed_decimal (copy_after pass ls.current ls.held from to))

-- means of READINGS through the current layout along axis AXIS, if ROOM holds them
unfoldable pub means_text : LayoutModel → Numbered × Numbered × Numbered → Told (List ℕ)
means_text l (axis, readings, room) = do
  axis ← one_of unsigned Unsigned axis
  readings ← list_of reading Reading readings
  room ← one_of lent Lent room
  count ← told (means_of l axis (length readings) room.0)
  Ok (list_text signed_decimal (first_means l axis readings count))
