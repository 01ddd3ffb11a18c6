-- Means of runs, as the code takes them: places are words.
use Rattle.std.specs.Prelude.{List, ℕ, ◌^◌, ◌-◌, ℤ, pos, negsuc, ◌≤ℤ◌, slice_index_or}
use Rattle.integer.specs.Multiple.{◌·◌}
use Rattle.specification.specs.Axis.{Axis}
use Rattle.positions.specs.Positions.{word_of}
use Rattle.positions.specs.Runs.{run_at, IsRunIn}
use Rattle.means.specs.Rounded.{rounded}
use Rattle.means.specs.Means.{sum_of}

-- reading i of a run
abbrev pub run_reading : List ℤ → ℕ → ℕ → ℕ → ℤ
run_reading readings start step i = slice_index_or readings (run_at start step i) (pos 0)

-- a sum of so many numbers of 32 bits
pub record IsSumOf (count : ℕ) (sum : ℤ) : Type 0 where
  pub above : (count · negsuc (2 ^ 31 - 1)) ≤ℤ sum
  pub below : sum ≤ℤ (count · pos (2 ^ 31 - 1))

-- the readings along an axis, from a place on, are in a list
abbrev pub IsAlongIn : Axis → ℕ → ℕ → Type 0
IsAlongIn along place length = IsRunIn place (word_of along.stride) along.extent length

-- their mean
abbrev pub mean_from : List ℤ → Axis → ℕ → ℤ
mean_from readings along place = rounded (sum_of (run_reading readings place (word_of along.stride)) along.extent) along.extent
