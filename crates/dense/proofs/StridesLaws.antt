-- Dense strides are all that their struct holds.
use Rattle.std.proofs.Common.{◌≡◌, List, ℤ, pos, ◌-◌, ◌≤◌, ◌<◌, ℕ, sym, refl, length, take, drop, replicate, arith}
use Rattle.std.proofs.lemmas.List.{length-take-le, take-append-drop, drop-replicate}
use Rattle.dense.specs.declared.DenseStrides.TheInside.{Inside}
use Rattle.dense.specs.declared.Major.{Major}
use Rattle.dense.specs.declared.Major.TheVariants.{Column, Row}
use Rattle.dense.specs.Dense.{axis_after}
use Rattle.dense.specs.Strides.{fields_of, IsFilled}

-- the struct of strides in the first places
abbrev pub made : List ℤ → ℕ → Inside
made strides count = record { strides = strides; count = count }

-- strides behind which there is only 0
pub filled : (strides : List ℤ) (count : ℕ) → count ≤ 16 → length strides ≡ 16 → drop count strides ≡ replicate (16 - count) (pos 0) → IsFilled (made strides count)
unfolding fields_of
filled strides count few long rest =
    let many : length (take count strides) ≡ count = length-take-le count strides (omega arith) in
    record { few = few; filled = rw (many, sym rest, take-append-drop count strides) refl }

-- at first all is 0
pub none_stored : (count : ℕ) → drop count (replicate 16 (pos 0)) ≡ replicate (16 - count) (pos 0)
none_stored count = drop-replicate count 16 (pos 0)

-- a stride is stored in front of the places behind them
pub in_front : (major : Major) (rank passed : ℕ) → passed < rank → axis_after major rank passed < rank
in_front Column rank passed h = h
in_front Row rank passed h = omega arith
