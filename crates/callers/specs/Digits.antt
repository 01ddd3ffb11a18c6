-- A record by its digits (RULES, "The record: writing").
use Rattle.std.specs.Prelude.{List, [], ◌∷◌, ◌++◌, ◌≡◌, ℕ, ◌+◌, ◌*◌}
use Rattle.specification.specs.Layout.{LayoutModel, rank}
use Rattle.specification.specs.Normal.{normal_of}
use Rattle.specification.specs.ByteClaims.{big_endian, twos, axes_by_digits}
use Rattle.callers.specs.Verdicts.{ByteTells}

-- the bytes are the record of a layout: length, version 1, a true verdict, rank, offset and axes of its normal form
pub record IsRecordOf (x : LayoutModel) (bytes : List ℕ) : Type 0 where
  pub verdict : ℕ
  pub tells : ByteTells x verdict
  pub digits : bytes ≡ big_endian 2 (13 + 16 * rank (normal_of x)) ++ (1 ∷ verdict ∷ rank (normal_of x) ∷ [])
      ++ big_endian 8 (twos (normal_of x).offset) ++ axes_by_digits (normal_of x).axes
