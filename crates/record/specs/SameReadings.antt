-- Whether two lists of calls come to the same readings, told by two records (RULES, "Equal records"): what `same_readings` promises.
use Rattle.std.specs.Prelude.{Bool, IsTrue, List, ℕ, ◌↔◌, ◌≡◌}
use Rattle.specification.specs.Outcome.{Outcome, done, refused}
use Rattle.specification.specs.Layout.{LayoutModel}
use Rattle.specification.specs.NormalClaims.{SameOffsets}
use Rattle.specification.specs.Record.{Writing}
use Rattle.specification.specs.Calls.{Call, end_of}
use Rattle.specification.specs.RecordsAgree.{record_in, Side}

-- what is said of one call of the writer: output and scratch as they were lent, its answer, output and scratch afterwards
abbrev pub OneWriter : Type 1
OneWriter = (output scratch : List ℕ) → Outcome ℕ → (output-then scratch-then : List ℕ) → Type 0

-- the answer tells whether x and y have equally many positions and the same offset at each; so do their records in the two outputs
pub record Tells (x y : LayoutModel) (same : Bool) (output other : List ℕ) : Type 0 where
  pub answer : IsTrue same ↔ SameOffsets x y
  pub records : (record_in output ≡ record_in other) ↔ SameOffsets x y

-- two writers in turn, each with an output of its own, the second with the scratch that the first one left: the first refusal is the answer
pub data InTurn (First Second : OneWriter) (x y : LayoutModel) (output other scratch : List ℕ) : Outcome Bool → (output-then other-then scratch-then : List ℕ) → Type 0 where
  -- nothing was changed
  first_refused : {number : ℕ} {values : List ℕ} → First output scratch (refused number values) output scratch
      → InTurn First Second x y output other scratch (refused number values) output other scratch
  -- the first record was written; the other output is as it was, and the scratch as the first writer left it
  second_refused : {n number : ℕ} {values output-then between : List ℕ} → First output scratch (done n) output-then between
      → Second other between (refused number values) other between
      → InTurn First Second x y output other scratch (refused number values) output-then other between
  both_wrote : {n n' : ℕ} {same : Bool} {output-then between other-then scratch-then : List ℕ} → First output scratch (done n) output-then between
      → Second other between (done n') other-then scratch-then → Tells x y same output-then other-then
      → InTurn First Second x y output other scratch (done same) output-then other-then scratch-then

module _ (a b : LayoutModel) (cs ds : List Call) where
  -- whatever the starts are: two writers on the end layouts of two lists of calls
  abbrev pub Compared : (output other scratch : List ℕ) → Outcome Bool → (output-then other-then scratch-then : List ℕ) → Type 0
  Compared = InTurn (Writing (end_of a cs)) (Writing (end_of b ds)) (end_of a cs) (end_of b ds)

  -- what that means if the starts are accepted: each list runs as the rules say, and each writer answers and leaves what `Side` says
  abbrev pub Means : (output other scratch : List ℕ) → Outcome Bool → (output-then other-then scratch-then : List ℕ) → Type 0
  Means = InTurn (Side a cs) (Side b ds) (end_of a cs) (end_of b ds)
