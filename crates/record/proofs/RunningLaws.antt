-- Records and the round trip of running code: the theorems of the definitions at what the contracts say.
use Rattle.std.proofs.Common.{◌≡◌, ℕ, ◌≤◌, List, length, take, drop, map, refl, ap, ◌∙◌, arith}
use Rattle.std.proofs.lemmas.List.{take_at, length-take-le}
use Rattle.specification.specs.Layout.{LayoutModel, IsAccepted}
use Rattle.specification.specs.Normal.{normal_of}
use Rattle.specification.specs.Outcome.{Outcome, done, refused}
use Rattle.specification.specs.Verdict.{words_needed}
use Rattle.specification.specs.Record.{Made, WasRead, written, write_answer, output_after, read_of, with_buffer, length_field, Writing}
use Rattle.specification.specs.RecordClaims.{Bytes}
use Rattle.specification.proofs.RecordsAgreeProved.{records_agree}
use Rattle.specification.proofs.RoundTripLaws.{round_trip}
use Rattle.specification.proofs.ReaderLaws.{reads}
use Rattle.view.specs.Model.{model_of}
use Rattle.record.specs.Writer.{wrote_of}
use Rattle.record.specs.Reading.{layout_read}
use Rattle.record.specs.Calls.{call_in}
use Rattle.record.specs.Running.{ChainsAgreeClaim, RunsAgreeClaim, RunningRoundTrip}
use Rattle.record.proofs.ChainLaws.{chain_claims}
use Rattle.record.proofs.SameLaws.{writing, written_at_end, fronted}

-- ---- records agree

pub chains_agree : ChainsAgreeClaim
chains_agree a b end end' ha hb cs ds answers answers' c c' output scratch output-then scratch-then output' scratch' output-then' scratch-then' wrote wrote' w w' =
    let d = chain_claims.as_defined c in
    let d' = chain_claims.as_defined c' in
    let whole = records_agree (model_of a) (model_of b) ha hb cs ds output scratch output-then scratch-then output' scratch' output-then' scratch-then' (wrote_of wrote) (wrote_of wrote')
    (rw d.end_is at (writing end _ _ _ _ _ w)) (rw d'.end_is at (writing end' _ _ _ _ _ w')) in
    record {
      first_chain = d;
      first_run = rw (d.end_is, d.answers_are) whole.first.run;
      second_chain = d';
      second_run = rw (d'.end_is, d'.answers_are) whole.second.run;
      whole = whole;
    }

pub runs_agree : RunsAgreeClaim
runs_agree a b end end' ha hb calls other_calls r r' output scratch output-then scratch-then output' scratch' output-then' scratch-then' wrote wrote' w w' =
    records_agree (model_of a) (model_of b) ha hb (map call_in calls) (map call_in other_calls) output scratch output-then scratch-then output' scratch' output-then' scratch-then' (wrote_of wrote) (wrote_of wrote')
    (written_at_end a end calls wrote r w) (written_at_end b end' other_calls wrote' r' w')

-- ---- the round trip

-- what was written is read as the normal form
pub read_back : (x : LayoutModel) (output scratch output-then scratch-then : List ℕ) (n : ℕ) → IsAccepted x → Writing x output scratch (done n) output-then scratch-then
    → (words : ℕ) → words_needed (normal_of x).axes ≤ words → layout_read (read_of output-then words) ≡ done (with_buffer (normal_of x))
read_back x output scratch output-then scratch-then n a w words h =
    let f = fronted w in
    let t = round_trip.write_read x (length output) (length scratch) words f.made (drop (length f.made.bytes) output) a f.was h in
    ap layout_read (ap (λ (bytes : List ℕ). read_of bytes words) f.begins ∙ t.1) ∙ ap done t.2

-- a reader that answered a layout read it
pub read_done : {l : LayoutModel} (o : Outcome WasRead) → done l ≡ layout_read o → (w : WasRead) × (o ≡ done w) × (l ≡ w.layout)
read_done (done w) e = (w, refl, cc)
read_done (refused number values) e = absurd cc

-- a layout that was read is written as the front of the bytes
pub written_back : (bytes scratch : List ℕ) (x : LayoutModel) → Bytes bytes → done x ≡ layout_read (read_of bytes (length scratch))
    → (output scratch' output-then scratch-then' : List ℕ) (answer : Outcome ℕ) → words_needed x.axes ≤ length scratch' → length_field bytes ≤ length output
    → Writing x output scratch' answer output-then scratch-then'
    → (answer ≡ done (length_field bytes)) × (take (length_field bytes) output-then ≡ take (length_field bytes) bytes)
unfolding write_answer
written_back bytes scratch x b r output scratch' output-then scratch-then' answer h k w =
    let d = read_done (read_of bytes (length scratch)) r in
    let t = round_trip.read_write bytes (length output) (length scratch) (length scratch') d.0 b d.1 k (rw d.2 at h) in
    let e : written x (length output) (length scratch') ≡ done t.0 = ap (λ (l : LayoutModel). written l (length output) (length scratch')) d.2 ∙ t.1 in
    let f = (reads bytes (length scratch) d.0 d.1).whole.fields in
    let n : length t.0.bytes ≡ length_field bytes = ap length t.2 ∙ length-take-le (length_field bytes) bytes (omega (arith, f.length_is, f.whole_there)) in (
      w.answer_is ∙ ap write_answer e ∙ ap done n,
      ap (take (length_field bytes)) (w.output_is ∙ ap (λ (o : Outcome Made). output_after o output) e) ∙ take_at t.0.bytes (drop (length t.0.bytes) output) (length_field bytes) n ∙ t.2,
    )

pub running_round_trip : RunningRoundTrip
running_round_trip = record {
  write_read = λ l output scratch output-then scratch-then wrote n a w e scratch' scratch-then' answer h r.
      r.answer_is ∙ read_back (model_of l) output scratch output-then scratch-then n a (rw e at (writing l output scratch wrote output-then scratch-then w)) (length scratch') h;
  read_write = λ bytes scratch scratch-then l b r output scratch' output-then scratch-then' wrote h k w.
      written_back bytes scratch (model_of l) b r.answer_is output scratch' output-then scratch-then' (wrote_of wrote) h k (writing l output scratch' wrote output-then scratch-then' w);
}
