-- Two chains and two records, from what `calls_hold` promises of every two chains (`ChainsAgreeClaim`).
use Rattle.std.proofs.Common.{◌≡◌, ◌↔◌, refl, sym, ◌∙◌, ℕ, Bool, IsTrue, List, length, take, Ok, Err}
use Rattle.specification.specs.Outcome.{Check}
use Rattle.specification.specs.Layout.{IsAccepted}
use Rattle.specification.specs.Calls.{Call, end_of}
use Rattle.specification.specs.NormalClaims.{SameOffsets}
use Rattle.specification.specs.RecordsAgree.{Run}
use Rattle.view.specs.declared.layout.Layout.{Layout}
use Rattle.view.specs.declared.layout.Refusal.{Refusal}
use Rattle.view.specs.Answers.{number_of, values_of}
use Rattle.view.specs.Model.{model_of}
use Rattle.record.specs.declared.fields.BytePlace.{BytePlace}
use Rattle.record.specs.Chain.{Chain}
use Rattle.record.specs.Running.{ChainsAgreeClaim}
use Rattle.record.specs.Writer.{Wrote}
use Rattle.callers.specs.Records.{HasRoom}
use Rattle.callers.proofs.Records.{as_long, not_refused}

-- each call was answered as the rules say, and the fronts of the outputs are equal exactly if the ends read the same
pub record Agreed (a b : Layout) (cs ds : List Call) (answers : List Check) (place place' : BytePlace) (output-then output-then' : List ℕ) : Type 0 where
  pub run : Run (model_of a) cs answers (end_of (model_of a) cs)
  pub told : (take place.0 output-then ≡ take place'.0 output-then') ↔ SameOffsets (end_of (model_of a) cs) (end_of (model_of b) ds)

pub agreed : (a b end end' : Layout) (cs ds : List Call) (answers answers' : List Check) (output scratch output-then scratch-then output' scratch' output-then' scratch-then' : List ℕ)
    (place place' : BytePlace) → ChainsAgreeClaim → IsAccepted (model_of a) → IsAccepted (model_of b) → Chain a cs answers end → Chain b ds answers' end'
    → Wrote end output scratch (Ok place) output-then scratch-then → Wrote end' output' scratch' (Ok place') output-then' scratch-then'
    → Agreed a b cs ds answers place place' output-then output-then'
agreed a b end end' cs ds answers answers' output scratch output-then scratch-then output' scratch' output-then' scratch-then' place place' claim ha hb c d w v =
    let t = claim a b end end' ha hb cs ds answers answers' c d output scratch output-then scratch-then output' scratch' output-then' scratch-then' (Ok place) (Ok place') w v in
    let f = t.whole.first in
    let g = t.whole.second in
    let n = (f.made place.0 refl).counted ∙ sym (as_long _ _ _ place.0 f.answered) in
    let m = (g.made place'.0 refl).counted ∙ sym (as_long _ _ _ place'.0 g.answered) in
    record { run = rw t.first_chain.end_is at t.first_run; told = rw (n, m) at (t.whole.equal_records place.0 place'.0 refl refl) }

-- a writer behind a chain that was refused had no room
pub short : (a end : Layout) (cs : List Call) (answers : List Check) (output scratch output-then scratch-then : List ℕ) (why : Refusal) → ChainsAgreeClaim → IsAccepted (model_of a)
    → Chain a cs answers end → Wrote end output scratch (Err why) output-then scratch-then → ¬ (HasRoom (end_of (model_of a) cs) (length output) (length scratch))
short a end cs answers output scratch output-then scratch-then why claim ha c w =
    let t = claim a a end end ha ha cs cs answers answers c c output scratch output-then scratch-then output scratch output-then scratch-then (Err why) (Err why) w w in
    not_refused (end_of (model_of a) cs) (length output) (length scratch) (number_of why) (values_of why) t.whole.first.answered

-- what two slices that are compared tell
pub told_by : {A B : List ℕ} {S : Type 0} {same : Bool} → (A ≡ B) ↔ S → IsTrue same ↔ (A ≡ B) → IsTrue same ↔ S
told_by t e = (λ h. t.0 (e.0 h), λ s. e.1 (t.1 s))
