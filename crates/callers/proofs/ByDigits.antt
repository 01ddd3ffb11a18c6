-- The bytes that a writer left, by their digits (`ByteClaims`).
use Rattle.std.proofs.Common.{ap, ◌∙◌, ℕ, List, length, take, Result, Ok, Err, IfOk}
use Rattle.specification.specs.Record.{Made}
use Rattle.specification.specs.ByteClaims.{ByteClaims}
use Rattle.specification.specs.Normal.{normal_of}
use Rattle.specification.proofs.VerdictByte.{true_byte}
use Rattle.specification.proofs.WriterAnswers.{writes}
use Rattle.view.specs.declared.layout.Layout.{Layout}
use Rattle.view.specs.declared.layout.Refusal.{Refusal}
use Rattle.view.specs.Model.{model_of}
use Rattle.record.specs.declared.fields.BytePlace.{BytePlace}
use Rattle.record.specs.Writer.{Wrote}
use Rattle.record.proofs.SameLaws.{writing, fronted, front_is, accepted}
use Rattle.callers.specs.Digits.{IsRecordOf}
use Rattle.callers.proofs.Verdicts.{byte_tells}

pub by_digits : (l : Layout) (r : Result BytePlace Refusal) (output scratch output-then scratch-then : List ℕ) → ByteClaims → Wrote l output scratch r output-then scratch-then
    → IfOk r (λ end. IsRecordOf (model_of l) (take end.0 output-then))
by_digits l (Err why) output scratch output-then scratch-then b w = tt
by_digits l (Ok place) output scratch output-then scratch-then b w =
    let x = writing l output scratch (Ok place) output-then scratch-then w in
    let f = fronted x in
    let m = writes (model_of l) (length output) (length scratch) f.made (accepted x) f.was in
    record {
      verdict = _;
      tells = byte_tells (model_of l) _ (true_byte (model_of l) (length scratch) m.j m.judged);
      digits = front_is x ∙ ap (λ (r : Made). r.bytes) m.is ∙ b.record_is (normal_of (model_of l)) m.j.answer;
    }
