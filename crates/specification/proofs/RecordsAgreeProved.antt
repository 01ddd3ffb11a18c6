-- When records agree, from the claim on the answers of the views: each list runs as the rules say, and the writer puts into the output
-- the record of the end layout's normal form, which is canonical.
use mathlib.Core.Path.{◌≡◌, refl, sym, ap, subst, ◌∙◌}
use mathlib.Core.List.{List, [], ◌∷◌, ◌++◌}
use Prim.Native.Nat.{ℕ}
use native.Mathlib.Omega.{arith}
use lib.ListN.{length, take, drop, get_or, length-append, length-drop}
use lib.Seq.{take_at, drop_at}
use Rattle.specification.specs.Outcome.{Outcome, Check, done, refused}
use Rattle.specification.specs.Layout.{LayoutModel, rank, IsAccepted}
use Rattle.specification.specs.Normal.{normal_of}
use Rattle.specification.specs.Verdict.{ScratchAfter}
use Rattle.specification.specs.Record.{record_length, length_field, Made, written, write_frees, output_after, write_answer, Writing}
use Rattle.specification.specs.Calls.{Call, after_call, answers_of, end_of}
use Rattle.specification.specs.ViewClaims.{AnswerClaims}
use Rattle.specification.specs.RecordsAgree.{Run, ended, passed, turned_away, record_in, AnsweredExactly, TrueByte, RecordMade, Side, RecordsAgreeClaim}
use Rattle.specification.proofs.AnswerLaws.{answer_claims}
use Rattle.specification.proofs.AcceptedLaws.{ends-keep}
use Rattle.specification.proofs.RecordFields.{length-record_bytes}
use Rattle.specification.proofs.WriterLaws.{normal-accepted}
use Rattle.specification.proofs.RecordFront.{record_then, length-field, verdict-byte}
use Rattle.specification.proofs.WriterAnswers.{Writes, writes, answered-exactly}
use Rattle.specification.proofs.VerdictByte.{true_byte}
use Rattle.specification.proofs.EqualRecords.{equal-exactly}
use Rattle.specification.proofs.OutcomeLaws.{clash}
use Rattle.std.proofs.lemmas.Int.{ints}

-- ---- the lists

-- a call passes or is turned away as the rules say, and a refusal hands on the old layout
run_of : AnswerClaims → (start : LayoutModel) (calls : List Call) → Run start calls (answers_of start calls) (end_of start calls)
unfolding answers_of end_of
run_of claims l [] = ended
run_of claims l (c ∷ calls) = go (after_call l c).answer refl (run_of claims (after_call l c).layout calls)
  where
    end : LayoutModel
    end = end_of (after_call l c).layout calls

    answers : List Check
    answers = answers_of (after_call l c).layout calls

    go : (o : Check) → (after_call l c).answer ≡ o → Run (after_call l c).layout calls answers end → Run l (c ∷ calls) ((after_call l c).answer ∷ answers) end
    go (done u) e r = subst (λ (o : Check). Run l (c ∷ calls) (o ∷ answers) end) (sym e) (passed ((claims.passes l c).0 e) r)
    go (refused number values) e r =
        subst (λ (o : Check). Run l (c ∷ calls) (o ∷ answers) end) (sym e)
        (turned_away ((claims.refuses l c number values).0 e) (subst (λ (x : LayoutModel). Run x calls answers end) (claims.left l c number values e) r))

-- ---- the record in the output

module _ (x : LayoutModel) (a : IsAccepted x) (output scratch : List ℕ) {m : Made} (w : Writes x (length output) (length scratch) m) where
  -- the output afterwards: the record of the normal form, then what stood there before
  record-then : output_after (done m) output ≡ record_then (normal_of x) w.j.answer (drop (length m.bytes) output)
  record-then = ap (λ (r : Made). r.bytes ++ drop (length m.bytes) output) w.is

  bytes-length : length m.bytes ≡ record_length (rank (normal_of x))
  bytes-length = ap (λ (r : Made). length r.bytes) w.is ∙ length-record_bytes (normal_of x) w.j.answer

  counted : length_field (output_after (done m) output) ≡ record_length (rank (normal_of x))
  counted = ap (λ (b : List ℕ). length_field b) record-then ∙ length-field (normal_of x) w.j.answer (drop (length m.bytes) output) (normal-accepted x a).few

  -- the record in the output is the record made
  record-in-output : record_in (output_after (done m) output) ≡ m.bytes
  record-in-output = ap (λ (k : ℕ). take k (output_after (done m) output)) counted ∙ take_at m.bytes (drop (length m.bytes) output) (record_length (rank (normal_of x))) bytes-length

  true-verdict : TrueByte x (get_or (output_after (done m) output) 3 0)
  true-verdict =
      subst (TrueByte x) (sym (ap (λ (b : List ℕ). get_or b 3 0) record-then ∙ verdict-byte (normal_of x) w.j.answer (drop (length m.bytes) output)))
      (true_byte x (length scratch) w.j w.judged)

  as_long : length (output_after (done m) output) ≡ length output
  as_long = rw (length-append, length-drop) (omega (arith, bytes-length, w.room_enough))

  unchanged-behind : drop (record_length (rank (normal_of x))) (output_after (done m) output) ≡ drop (record_length (rank (normal_of x))) output
  unchanged-behind = drop_at m.bytes (drop (length m.bytes) output) (record_length (rank (normal_of x))) bytes-length ∙ ap (λ (k : ℕ). drop k output) bytes-length

  record-made : (scratch-then : List ℕ) → ScratchAfter m.freed scratch scratch-then → RecordMade x output scratch (output_after (done m) output) scratch-then
  record-made scratch-then s = record {
    counted = counted;
    verdict = true-verdict;
    as_long = as_long;
    behind = unchanged-behind;
    scratch_as_long = s.0;
    scratch_behind = subst (λ (k : ℕ). drop k scratch-then ≡ drop k scratch) w.frees s.1;
  }

-- ---- one side

-- after a refusal output and scratch are as before
unchanged-of : (o : Outcome Made) (number : ℕ) (values output scratch scratch-then : List ℕ) → write_answer o ≡ refused number values → ScratchAfter (write_frees o) scratch scratch-then
    → (output_after o output ≡ output) × (scratch-then ≡ scratch)
unfolding write_answer write_frees
unchanged-of o number values output scratch scratch-then e s = grind (arith, ints)

-- if the answer is a length, a record was made and stands in the output
record Wrote (x : LayoutModel) (output scratch output-then scratch-then : List ℕ) : Type 0 where
  made : Made
  writes_it : Writes x (length output) (length scratch) made
  output_is : output-then ≡ output_after (done made) output
  scratch_is : ScratchAfter made.freed scratch scratch-then

module _ (x : LayoutModel) (a : IsAccepted x) (output scratch : List ℕ) {output-then scratch-then : List ℕ} {answer : Outcome ℕ} (w : Writing x output scratch answer output-then scratch-then) where
  wrote : (n : ℕ) → answer ≡ done n → Wrote x output scratch output-then scratch-then
  unfolding write_answer write_frees
  wrote n e = go (written x (length output) (length scratch)) refl (sym w.answer_is ∙ e) w.output_is w.scratch_is
    where
      go : (o : Outcome Made) → written x (length output) (length scratch) ≡ o → write_answer o ≡ done n → output-then ≡ output_after o output → ScratchAfter (write_frees o) scratch scratch-then
          → Wrote x output scratch output-then scratch-then
      go (done m) q e p s = record { made = m; writes_it = writes x (length output) (length scratch) m a q; output_is = p; scratch_is = s }
      go (refused number values) q e p s = absurd (clash (sym e))

  made-record : Wrote x output scratch output-then scratch-then → RecordMade x output scratch output-then scratch-then
  made-record u = subst (λ (o : List ℕ). RecordMade x output scratch o scratch-then) (sym u.output_is) (record-made x a output scratch u.writes_it scratch-then u.scratch_is)

  record_is : (u : Wrote x output scratch output-then scratch-then) → record_in output-then ≡ u.made.bytes
  record_is u = ap record_in u.output_is ∙ record-in-output x a output scratch u.writes_it

side-of : AnswerClaims → (start : LayoutModel) → IsAccepted start → (calls : List Call) (output scratch output-then scratch-then : List ℕ) (answer : Outcome ℕ)
    → Writing (end_of start calls) output scratch answer output-then scratch-then → Side start calls output scratch answer output-then scratch-then
side-of claims start s calls output scratch output-then scratch-then answer w =
    let a = ends-keep start calls s in
    record {
      run = run_of claims start calls;
      answered = subst (AnsweredExactly (end_of start calls) (length output) (length scratch)) (sym w.answer_is) (answered-exactly (end_of start calls) (length output) (length scratch) a);
      unchanged = λ number values e.
          let u = unchanged-of (written (end_of start calls) (length output) (length scratch)) number values output scratch scratch-then (sym w.answer_is ∙ e) w.scratch_is in
          (w.output_is ∙ u.0, u.1);
      made = λ n e. made-record (end_of start calls) a output scratch w (wrote (end_of start calls) a output scratch w n e);
    }

-- ---- both

agree_from : AnswerClaims → RecordsAgreeClaim
agree_from claims a b ha hb cs ds output scratch output-then scratch-then output' scratch' output-then' scratch-then' answer answer' w w' = record {
  first = side-of claims a ha cs output scratch output-then scratch-then answer w;
  second = side-of claims b hb ds output' scratch' output-then' scratch-then' answer' w';
  equal_records = λ n n' e e'.
      let x = ends-keep a cs ha in
      let y = ends-keep b ds hb in
      let u = wrote (end_of a cs) x output scratch w n e in
      let v = wrote (end_of b ds) y output' scratch' w' n' e' in
      let p = record_is (end_of a cs) x output scratch w u in
      let q = record_is (end_of b ds) y output' scratch' w' v in
      let r = equal-exactly (end_of a cs) (end_of b ds) x y u.writes_it v.writes_it in
      (λ h. r.0 (sym p ∙ h ∙ q), λ s. p ∙ r.1 s ∙ sym q);
}

pub records_agree : RecordsAgreeClaim
records_agree = agree_from answer_claims
