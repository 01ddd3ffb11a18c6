-- The fields of dense strides, got back from the strides that clauses see.
use Rattle.std.specs.Prelude.{List, ℤ, pos, ◌++◌, ◌-◌, ◌≤◌, ◌≡◌, length, take, replicate}
use Rattle.dense.specs.declared.DenseStrides.TheInside.{Inside}

-- strides in the first places, 0 in the others
unfoldable pub fields_of : List ℤ → Inside
fields_of strides = record { strides = strides ++ replicate (16 - length strides) (pos 0); count = length strides }

-- the places behind the strides hold 0
pub record IsFilled (dense : Inside) : Type 0 where
  pub few : dense.count ≤ 16
  pub filled : fields_of (take dense.count dense.strides) ≡ dense
