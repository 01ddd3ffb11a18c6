-- The writer on where lists of calls end: one call of it by its answer, two in turn, and what that means for accepted starts.
use Rattle.std.proofs.Common.{◌≡◌, ◌↔◌, IsTrue, Bool, ℕ, ◌≤◌, List, [], ◌++◌, length, take, drop, map, Result, refl, sym, ap, ◌∙◌, arith}
use Rattle.std.proofs.lemmas.Int.{ints}
use Rattle.std.proofs.lemmas.List.{take_at, length-append, length-take-le}
use Rattle.record.specs.declared.fields.BytePlace.{BytePlace}
use Rattle.specification.specs.Outcome.{Outcome, done, refused}
use Rattle.specification.specs.Layout.{LayoutModel, IsAccepted}
use Rattle.specification.specs.Record.{Made, written, write_frees, write_answer, output_after, Writing}
use Rattle.specification.specs.Calls.{Call, end_of}
use Rattle.specification.specs.RecordsAgree.{Side}
use Rattle.specification.proofs.CheckInLaws.{normal_call_claims}
use Rattle.specification.proofs.OutcomeLaws.{bound}
use Rattle.specification.proofs.RecordsAgreeProved.{records_agree}
use Rattle.specification.proofs.EqualRecords.{equal-exactly}
use Rattle.specification.proofs.WriterAnswers.{writes}
use Rattle.view.specs.declared.layout.Layout.{Layout}
use Rattle.view.specs.declared.layout.Refusal.{Refusal}
use Rattle.view.specs.Model.{model_of}
use Rattle.record.specs.declared.calls.Call as code
use Rattle.record.specs.Calls.{call_in, RunTo}
use Rattle.record.specs.Writer.{wrote_of, Wrote}
use Rattle.record.specs.SameReadings.{first_refused, second_refused, both_wrote, Compared, Means}

-- ---- one call

-- the definition's words for what the call promises
pub writing : (l : Layout) (output scratch : List ℕ) (wrote : Result BytePlace Refusal) (output-then scratch-then : List ℕ) → Wrote l output scratch wrote output-then scratch-then
    → Writing (model_of l) output scratch (wrote_of wrote) output-then scratch-then
writing l output scratch wrote output-then scratch-then w = assumption w

-- a record of n bytes was made, and the output begins with it
pub record Fronted (x : LayoutModel) (output scratch : List ℕ) (n : ℕ) (output-then : List ℕ) : Type 0 where
  pub made : Made
  pub was : written x (length output) (length scratch) ≡ done made
  pub long : length made.bytes ≡ n
  pub begins : output-then ≡ made.bytes ++ drop (length made.bytes) output

-- what the definition made tells what is there afterwards
module _ (x : LayoutModel) (output scratch output-then : List ℕ) where
  fronted_by : (o : Outcome Made) (n : ℕ) → written x (length output) (length scratch) ≡ o → done n ≡ write_answer o → output-then ≡ output_after o output → Fronted x output scratch n output-then
  unfolding write_answer
  fronted_by (done m) n q e p = record { made = m; was = q; long = cc; begins = p }
  fronted_by (refused number values) n q e p = absurd cc

module _ {x : LayoutModel} {output scratch output-then scratch-then : List ℕ} where
  pub unchanged : {number : ℕ} {values : List ℕ} → Writing x output scratch (refused number values) output-then scratch-then → (output-then ≡ output) × (scratch-then ≡ scratch)
  unfolding write_answer write_frees
  unchanged w = grind (arith, ints, w.answer_is, w.output_is, w.scratch_is)

  module _ {n : ℕ} (w : Writing x output scratch (done n) output-then scratch-then) where
    pub fronted : Fronted x output scratch n output-then
    fronted = fronted_by x output scratch output-then (written x (length output) (length scratch)) n refl w.answer_is w.output_is

    pub front_is : take n output-then ≡ fronted.made.bytes
    front_is = ap (take n) fronted.begins ∙ take_at fronted.made.bytes (drop (length fronted.made.bytes) output) n fronted.long

    pub fits : n ≤ length output-then
    fits = omega (arith, ap length fronted.begins, length-append fronted.made.bytes (drop (length fronted.made.bytes) output), fronted.long)

    pub front_whole : n ≡ length (take n output-then)
    front_whole = sym (length-take-le n output-then fits)

    -- no record is made of a layout that is not accepted
    pub accepted : IsAccepted x
    unfolding written
    accepted = let b = bound fronted.was in ((normal_call_claims.passes x b.what).0 b.was).0.0

-- ---- two in turn

-- the writer on the layout that `run` came to
pub written_at_end : (start end : Layout) (calls : List code.Call) (wrote : Result BytePlace Refusal) {output scratch output-then scratch-then : List ℕ} → RunTo start calls end
    → Wrote end output scratch wrote output-then scratch-then → Writing (end_of (model_of start) (map call_in calls)) output scratch (wrote_of wrote) output-then scratch-then
written_at_end start end calls wrote {output} {scratch} {output-then} {scratch-then} r w =
    let e : model_of end ≡ end_of (model_of start) (map call_in calls) = assumption r in
    rw e at (writing end output scratch wrote output-then scratch-then w)

-- what `records_agree` says of one writer
pub side : (a : LayoutModel) → IsAccepted a → (cs : List Call) {output scratch : List ℕ} {answer : Outcome ℕ} {output-then scratch-then : List ℕ}
    → Writing (end_of a cs) output scratch answer output-then scratch-then → Side a cs output scratch answer output-then scratch-then
side a ha cs w = (records_agree a a ha ha cs cs _ _ _ _ _ _ _ _ _ _ w w).first

module _ (a b : LayoutModel) (cs ds : List Call) {output other scratch : List ℕ} where
  pub first_turned : {number : ℕ} {values output-then scratch-then : List ℕ} → Writing (end_of a cs) output scratch (refused number values) output-then scratch-then
      → Compared a b cs ds output other scratch (refused number values) output-then other scratch-then
  first_turned w = let u = unchanged w in rw (u.0, u.1) (first_refused (rw (u.0, u.1) at w))

  pub second_turned : {n number : ℕ} {values output-then between other-then scratch-then : List ℕ} → Writing (end_of a cs) output scratch (done n) output-then between
      → Writing (end_of b ds) other between (refused number values) other-then scratch-then
      → Compared a b cs ds output other scratch (refused number values) output-then other-then scratch-then
  second_turned w v = let u = unchanged v in rw (u.0, u.1) (second_refused w (rw (u.0, u.1) at v))

  -- the fronts that are compared are the records, which tell the offsets
  pub both_done : {n n' : ℕ} {same : Bool} {output-then between other-then scratch-then : List ℕ} → Writing (end_of a cs) output scratch (done n) output-then between
      → Writing (end_of b ds) other between (done n') other-then scratch-then → IsTrue same ↔ (take n output-then ≡ take n' other-then)
      → Compared a b cs ds output other scratch (done same) output-then other-then scratch-then
  unfolding end_of
  both_done {n} {n'} w v e =
      let f = fronted w in
      let g = fronted v in
      let q = equal-exactly _ _ (accepted w) (accepted v) (writes _ _ _ f.made (accepted w) f.was) (writes _ _ _ g.made (accepted v) g.was) in
      both_wrote w v record {
        answer = (λ h. q.0 (sym (front_is w) ∙ e.0 h ∙ front_is v), λ s. e.1 (front_is w ∙ q.1 s ∙ sym (front_is v)));
        records = (records_agree (end_of a cs) (end_of b ds) (accepted w) (accepted v) [] [] _ _ _ _ _ _ _ _ (done n) (done n') w v).equal_records n n' refl refl;
      }

  pub meant : {answer : Outcome Bool} {output-then other-then scratch-then : List ℕ} → Compared a b cs ds output other scratch answer output-then other-then scratch-then
      → IsAccepted a → IsAccepted b → Means a b cs ds output other scratch answer output-then other-then scratch-then
  meant (first_refused w) ha hb = first_refused (side a ha cs w)
  meant (second_refused w v) ha hb = second_refused (side a ha cs w) (side b hb ds v)
  meant (both_wrote w v t) ha hb = both_wrote (side a ha cs w) (side b hb ds v) t
