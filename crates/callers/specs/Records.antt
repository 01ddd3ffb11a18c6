-- What a record asks for (RULES, "The record: writing").
use Rattle.std.specs.Prelude.{false, ◌≡◌, ℕ, ◌≤◌}
use Rattle.specification.specs.Layout.{LayoutModel, rank}
use Rattle.specification.specs.Normal.{normal_of, overfull}
use Rattle.specification.specs.Verdict.{words_needed}
use Rattle.specification.specs.Record.{record_length}

-- a layout of at most 2^64 - 1 positions, room for the bytes of its normal form, and the words that its verdict needs
pub record HasRoom (x : LayoutModel) (room words : ℕ) : Type 0 where
  pub few : overfull x.axes ≡ false
  pub room_there : record_length (rank (normal_of x)) ≤ room
  pub words_there : words_needed (normal_of x).axes ≤ words
