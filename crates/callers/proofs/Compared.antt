-- What `means` of `same_readings` says to whoever looks at the answer and at the byte.
use Rattle.std.proofs.Common.{◌↔◌, refl, ℕ, ◌≤◌, Bool, IsTrue, List, length, get_or, arith}
use Rattle.specification.specs.Outcome.{done, refused}
use Rattle.specification.specs.Layout.{LayoutModel}
use Rattle.specification.specs.Calls.{Call, end_of}
use Rattle.specification.specs.NormalClaims.{SameOffsets}
use Rattle.record.specs.SameReadings.{first_refused, second_refused, both_wrote, Means}
use Rattle.callers.specs.Records.{HasRoom}
use Rattle.callers.specs.Verdicts.{ByteTells}
use Rattle.callers.proofs.Records.{had_room, not_refused}
use Rattle.callers.proofs.Verdicts.{byte_tells}

module _ (a b : LayoutModel) (cs ds : List Call) (output other scratch output-then other-then scratch-then : List ℕ) where
  -- both records were made
  pub record ComparedOk (same : Bool) : Type 0 where
    pub told : IsTrue same ↔ SameOffsets (end_of a cs) (end_of b ds)
    pub byte : ByteTells (end_of a cs) (get_or output-then 3 0)
    pub long : 4 ≤ length output-then

  pub compared_ok : (same : Bool) → Means a b cs ds output other scratch (done same) output-then other-then scratch-then → ComparedOk same
  compared_ok same (both_wrote {n} w v t) =
      let m = w.made n refl in
      let h = had_room (end_of a cs) (length output) (length scratch) n w.answered in
      record { told = t.answer; byte = byte_tells _ _ m.verdict; long = omega (arith, h.room_there, m.as_long) }

-- one was refused: it had no room
pub compared_answered : (a b : LayoutModel) (cs ds : List Call) (output other scratch output-then other-then scratch-then : List ℕ) (number : ℕ) (values : List ℕ)
    → Means a b cs ds output other scratch (refused number values) output-then other-then scratch-then
    → HasRoom (end_of a cs) (length output) (length scratch) → ¬ (HasRoom (end_of b ds) (length other) (length scratch))
compared_answered a b cs ds output other scratch _ _ _ number values (first_refused w) h k = not_refused (end_of a cs) (length output) (length scratch) number values w.answered h
compared_answered a b cs ds output other scratch _ _ _ number values (second_refused {n} {between = between} w v) h k =
    let m = w.made n refl in
    not_refused (end_of b ds) (length other) (length between) number values v.answered (record { few = k.few; room_there = k.room_there; words_there = omega (arith, k.words_there, m.scratch_as_long) })
