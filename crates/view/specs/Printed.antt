-- Lists and layouts as they are printed, byte by byte. Assumes nothing.
use Rattle.std.specs.Prelude.{ℕ, List, [], ◌∷◌, ◌++◌, codes, take}
use Rattle.std.specs.List.{flat_map}
use Rattle.std.specs.Fmt.{decimal, signed_decimal}
use Rattle.specification.specs.Layout.{LayoutModel}

-- the texts of entries, with a text between each two
unfoldable pub joined : {A : Type 0} → List ℕ → (A → List ℕ) → List A → List ℕ
joined between text_of [] = []
joined between text_of (first ∷ others) = text_of first ++ flat_map (λ other. between ++ text_of other) others

-- entries joined by commas; `-` for none
unfoldable pub list_text : {A : Type 0} → (A → List ℕ) → List A → List ℕ
list_text text_of [] = codes "-"
list_text text_of (first ∷ others) = joined (codes ",") text_of (first ∷ others)

-- LEN OFFSET EXTENTS STRIDES; above rank 16 the 16 axes that a layout holds
unfoldable pub layout_text : LayoutModel → List ℕ
layout_text l =
    decimal l.buffer ++ 32 ∷ (signed_decimal l.offset
    ++ 32 ∷ (list_text (λ a. decimal a.extent) (take 16 l.axes)
    ++ 32 ∷ list_text (λ a. signed_decimal a.stride) (take 16 l.axes)))
