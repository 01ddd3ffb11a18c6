-- Both ways of the round trip for whoever writes and reads in one scratch, from what `calls_hold`, `records_hold` and `normal_forms_hold` promise.
use Rattle.std.proofs.Common.{◌≡◌, refl, ℕ, ◌≤◌, List, [], length, take, Result, Ok, Err, IfOk, IfErr, IsOk, arith}
use Rattle.specification.specs.Outcome.{Outcome, done, refused}
use Rattle.specification.specs.Layout.{LayoutModel, IsAccepted}
use Rattle.specification.specs.Normal.{normal_of}
use Rattle.specification.specs.NormalClaims.{SameOffsets, NormalClaims}
use Rattle.specification.specs.Record.{WasRead, read_of, with_buffer, length_field, Writing}
use Rattle.specification.specs.RecordClaims.{Bytes, ReadRefused, ReaderClaims}
use Rattle.specification.specs.RecordsAgree.{Side, RecordsAgreeClaim}
use Rattle.specification.specs.Calls.{end_of}
use Rattle.specification.proofs.OutcomeLaws.{done_inj}
use Rattle.view.specs.declared.layout.Layout.{Layout}
use Rattle.view.specs.declared.layout.Refusal.{Refusal}
use Rattle.view.specs.Answers.{number_of, values_of}
use Rattle.view.specs.Model.{model_of, layout_outcome}
use Rattle.record.specs.declared.fields.BytePlace.{BytePlace}
use Rattle.record.specs.Writer.{wrote_of, Wrote}
use Rattle.record.specs.Reading.{layout_read, Reading}
use Rattle.record.specs.Lent.{LentClaims}
use Rattle.record.specs.Running.{RunningRoundTrip}
use Rattle.record.proofs.SameLaws.{writing, accepted}
use Rattle.callers.specs.Records.{HasRoom}
use Rattle.callers.proofs.Records.{not_refused}

-- ---- write, then read

-- what the theorem on equal records says of one record
side : RecordsAgreeClaim → {x : LayoutModel} {output scratch output-then scratch-then : List ℕ} {answer : Outcome ℕ} → IsAccepted x
    → Writing x output scratch answer output-then scratch-then → Side x [] output scratch answer output-then scratch-then
unfolding end_of
side agree {x} a w = (agree x x a a [] [] _ _ _ _ _ _ _ _ _ _ w w).first

pub read_is_form : (l : Layout) (place : BytePlace) (output scratch output-then scratch-then scratch-last : List ℕ) (answer : Outcome LayoutModel) → LentClaims → RunningRoundTrip
    → Wrote l output scratch (Ok place) output-then scratch-then → Reading output-then scratch-then answer scratch-last → answer ≡ done (with_buffer (normal_of (model_of l)))
read_is_form l place output scratch output-then scratch-then scratch-last answer lent trip w r =
    let x = writing l output scratch (Ok place) output-then scratch-then w in
    trip.write_read l output scratch output-then scratch-then (Ok place) place.0 (accepted x) w refl scratch-then scratch-last answer
    (omega (arith, lent.lent_to_write l output scratch output-then scratch-then (Ok place) place.0 w refl, x.scratch_is.0)) r

pub form_reads_same : (l : LayoutModel) → NormalClaims → SameOffsets (with_buffer (normal_of l)) l
unfolding with_buffer
form_reads_same l n = let s = n.same l in record { as_many = s.as_many; alike = s.alike }

-- the same of the answer of the call
pub kept : (r : Result Layout Refusal) (l : LayoutModel) (P : Refusal → Type 0) → NormalClaims → layout_outcome r ≡ done (with_buffer (normal_of l))
    → IfOk r (λ read. model_of read ≡ with_buffer (normal_of l)) × IfOk r (λ read. SameOffsets (model_of read) l) × IsOk r × IfErr r P
kept (Ok read) l P n e = let p = done_inj e in (p, rw p (form_reads_same l n), refl, tt)
kept (Err why) l P n e = absurd cc

pub write_answered : (l : Layout) (why : Refusal) (output scratch output-then scratch-then : List ℕ) → RecordsAgreeClaim → Wrote l output scratch (Err why) output-then scratch-then
    → IsAccepted (model_of l) → ¬ (HasRoom (model_of l) (length output) (length scratch))
unfolding end_of
write_answered l why output scratch output-then scratch-then agree w a h =
    let s = side agree a (writing l output scratch (Err why) output-then scratch-then w) in
    not_refused (model_of l) (length output) (length scratch) (number_of why) (values_of why) s.answered h

-- ---- read, then write

pub written_again : (bytes scratch scratch-then output output-then scratch-last : List ℕ) (l : Layout) (wrote : Result BytePlace Refusal) → LentClaims → RunningRoundTrip → Bytes bytes
    → Reading bytes scratch (done (model_of l)) scratch-then → length_field bytes ≤ length output → Wrote l output scratch-then wrote output-then scratch-last
    → (wrote_of wrote ≡ done (length_field bytes)) × (take (length_field bytes) output-then ≡ take (length_field bytes) bytes)
written_again bytes scratch scratch-then output output-then scratch-last l wrote lent trip b r k w =
    trip.read_write bytes scratch scratch-then l b r output scratch-then output-then scratch-last wrote
    (omega (arith, lent.lent_to_read bytes scratch scratch-then l r, r.scratch_is.0)) k w

-- the same of the answer of the call, if there is room
pub again : (r : Result BytePlace Refusal) (n room : ℕ) (bytes output : List ℕ) (P : Refusal → Type 0) → (n ≤ room → (wrote_of r ≡ done n) × (take n output ≡ take n bytes))
    → (n ≤ room → IfOk r (λ end. take end.0 output ≡ take end.0 bytes)) × (n ≤ room → IfOk r (λ end. end.0 ≡ n)) × (n ≤ room → IfErr r P)
again (Ok end) n room bytes output P t = (λ h. rw (done_inj (t h).0) (t h).1, λ h. done_inj (t h).0, λ h. tt)
again (Err why) n room bytes output P t = (λ h. tt, λ h. tt, λ h. let p = (t h).0 in absurd cc)

read_refused_by : {number : ℕ} {values : List ℕ} (o : Outcome WasRead) → refused number values ≡ layout_read o → o ≡ refused number values
read_refused_by (done w) e = absurd cc
read_refused_by (refused number values) e = cc

pub read_refused : (bytes scratch scratch-then : List ℕ) (number : ℕ) (values : List ℕ) → ReaderClaims → Reading bytes scratch (refused number values) scratch-then
    → ReadRefused bytes (length scratch) number values
read_refused bytes scratch scratch-then number values c r = (c.refuses bytes (length scratch) number values).0 (read_refused_by (read_of bytes (length scratch)) r.answer_is)
