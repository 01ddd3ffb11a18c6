-- Equal records (RULES, "Equal records") and the round trip said of running code: what any two chains of calls, any two runs of lists, and any calls of `write_record` and `read_record`, come to.
-- A `Layout` and a `Result` are what the functions hand back; each premise is the contract of a function: `Wrote` of `write_record`, `Reading` of `read_record`, `RunTo` of `run`, `CallMade` in a chain of `after` or `make_in_place`.
use Rattle.view.specs.declared.layout.Refusal.{Refusal}
use Rattle.record.specs.declared.fields.BytePlace.{BytePlace}
use Rattle.std.specs.Prelude.{List, ◌≡◌, ℕ, ◌≤◌, length, take, map, Result}
use Rattle.specification.specs.Outcome.{Outcome, Check, done}
use Rattle.specification.specs.Layout.{LayoutModel, IsAccepted}
use Rattle.specification.specs.Normal.{normal_of}
use Rattle.specification.specs.Verdict.{words_needed}
use Rattle.specification.specs.Record.{with_buffer, length_field}
use Rattle.specification.specs.RecordClaims.{Bytes}
use Rattle.specification.specs.Calls.{Call}
use Rattle.specification.specs.RecordsAgree.{Run, RecordsAgree}
use Rattle.view.specs.declared.layout.Layout.{Layout}
use Rattle.view.specs.Model.{model_of}
use Rattle.record.specs.declared.calls.Call as code
use Rattle.record.specs.Calls.{call_in, RunTo}
use Rattle.record.specs.Chain.{Chain, AsDefined}
use Rattle.record.specs.Writer.{wrote_of, Wrote}
use Rattle.record.specs.Reading.{Reading}

-- two chains of calls and two calls of the writer behind them: the answers given and the layouts handed back are the definition's,
-- each call passed or was turned away as the rules say, and the records agree
pub record ChainsAgree (a b : Layout) (cs ds : List Call) (answers answers' : List Check) (end end' : Layout)
    (output scratch output-then scratch-then output' scratch' output-then' scratch-then' : List ℕ) (answer answer' : Outcome ℕ) : Type 0 where
  pub first_chain : AsDefined a cs answers end
  pub first_run : Run (model_of a) cs answers (model_of end)
  pub second_chain : AsDefined b ds answers' end'
  pub second_run : Run (model_of b) ds answers' (model_of end')
  pub whole : RecordsAgree (model_of a) (model_of b) cs ds output scratch output-then scratch-then output' scratch' output-then' scratch-then' answer answer'

-- for every two accepted layouts, whoever made them, every two chains of calls, and every lent memory
abbrev pub ChainsAgreeClaim : Type 0
ChainsAgreeClaim = (a b end end' : Layout) → IsAccepted (model_of a) → IsAccepted (model_of b)
    → (cs ds : List Call) (answers answers' : List Check) → Chain a cs answers end → Chain b ds answers' end'
    → (output scratch output-then scratch-then output' scratch' output-then' scratch-then' : List ℕ) (wrote wrote' : Result BytePlace Refusal)
    → Wrote end output scratch wrote output-then scratch-then → Wrote end' output' scratch' wrote' output-then' scratch-then'
    → ChainsAgree a b cs ds answers answers' end end' output scratch output-then scratch-then output' scratch' output-then' scratch-then' (wrote_of wrote) (wrote_of wrote')

-- the same of `run`: two lists of calls from two accepted layouts, and a writer on each end layout, with an output and a scratch of its own
abbrev pub RunsAgreeClaim : Type 0
RunsAgreeClaim = (a b end end' : Layout) → IsAccepted (model_of a) → IsAccepted (model_of b)
    → (calls other_calls : List code.Call) → RunTo a calls end → RunTo b other_calls end'
    → (output scratch output-then scratch-then output' scratch' output-then' scratch-then' : List ℕ) (wrote wrote' : Result BytePlace Refusal)
    → Wrote end output scratch wrote output-then scratch-then → Wrote end' output' scratch' wrote' output-then' scratch-then'
    → RecordsAgree (model_of a) (model_of b) (map call_in calls) (map call_in other_calls) output scratch output-then scratch-then output' scratch' output-then' scratch-then' (wrote_of wrote) (wrote_of wrote')

-- the round trip, both ways, of any calls of writer and reader; the second is lent words of its own, enough for the verdict
pub record RunningRoundTrip : Type 0 where
  -- write then read: the output after the writer is read as the normal form, whatever stands behind the record
  pub write_read : (l : Layout) (output scratch output-then scratch-then : List ℕ) (wrote : Result BytePlace Refusal) (n : ℕ) → IsAccepted (model_of l)
      → Wrote l output scratch wrote output-then scratch-then → wrote_of wrote ≡ done n
      → (scratch' scratch-then' : List ℕ) (answer : Outcome LayoutModel) → words_needed (normal_of (model_of l)).axes ≤ length scratch' → Reading output-then scratch' answer scratch-then'
      → answer ≡ done (with_buffer (normal_of (model_of l)))
  -- read then write: a record of the same length is made, and it is the bytes of the front again
  pub read_write : (bytes scratch scratch-then : List ℕ) (l : Layout) → Bytes bytes → Reading bytes scratch (done (model_of l)) scratch-then
      → (output scratch' output-then scratch-then' : List ℕ) (wrote : Result BytePlace Refusal) → words_needed (model_of l).axes ≤ length scratch' → length_field bytes ≤ length output
      → Wrote l output scratch' wrote output-then scratch-then'
      → (wrote_of wrote ≡ done (length_field bytes)) × (take (length_field bytes) output-then ≡ take (length_field bytes) bytes)
