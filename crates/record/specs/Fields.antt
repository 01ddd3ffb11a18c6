-- The bytes of a record by its fields, with the verdict as a byte.
use Rattle.std.specs.Prelude.{List, [], ◌∷◌, ◌++◌, ℕ}
use Rattle.std.specs.Int.{w16, to_be_bytes}
use Rattle.specification.specs.Layout.{LayoutModel, rank}
use Rattle.specification.specs.Record.{signed_bytes, record_length, axis_bytes}

-- the first 13 bytes: the length of the record in 2, version, verdict and rank in one each, the offset in 8
unfoldable pub head_bytes : LayoutModel → ℕ → List ℕ
head_bytes l verdict = to_be_bytes w16 (record_length (rank l)) ++ (1 ∷ verdict ∷ rank l ∷ []) ++ signed_bytes l.offset

-- the whole record; `record_bytes` of the definitions with the verdict's byte
abbrev pub record_fields : LayoutModel → ℕ → List ℕ
record_fields l verdict = head_bytes l verdict ++ axis_bytes l.axes
