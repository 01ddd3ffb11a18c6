-- Which characters an error shows as they are, and how it shows the others. Assumes nothing.
use Rattle.std.specs.Prelude.{ℕ, Bool, not, ◌&&◌, List, Option, Some, None, false, nat_lt, encode_utf8, encode_utf8_all, if◌then◌else◌}
use Rattle.std.specs.Char.Escape.{escape_unicode}
use Rattle.ucd_category.specs.GeneralCategory.{general_category}
use Rattle.ucd_category.specs.GeneralCategoryGroup.{in_group}
use Rattle.ucd_category.specs.declared.GeneralCategoryGroup.TheVariants.{Other, Separator}
use Rattle.unicode_width.specs.Width.{char_width}

-- it has a width, and this is not 0
abbrev pub has_columns : Option ℕ → Bool
has_columns None = false
has_columns (Some columns) = nat_lt 0 columns

unfoldable pub takes_a_column : ℕ → Bool
takes_a_column c = has_columns (char_width false c)

-- a character that takes a column, and is no separator and no control, format, surrogate, private or unassigned character
unfoldable pub is_seen : ℕ → Bool
is_seen c = (takes_a_column c && not (in_group Other (general_category c))) && not (in_group Separator (general_category c))

-- itself, or its number in a `\u{..}`
unfoldable pub shown : ℕ → List ℕ
shown c = if is_seen c then encode_utf8 c else encode_utf8_all (escape_unicode c)
