-- How many words to lend a second time (RULES, "Lent memory"): as many as the call before was lent, or 16,777,217, are enough for every call on the same layout.
-- Each premise is the contract of a function: `Wrote` of `write_record`, `Reading` of `read_record`.
use Rattle.view.specs.declared.layout.Refusal.{Refusal}
use Rattle.record.specs.declared.fields.BytePlace.{BytePlace}
use Rattle.std.specs.Prelude.{List, ◌⊎◌, ◌≡◌, ℕ, ◌≤◌, length, take, Result}
use Rattle.specification.specs.Outcome.{Outcome, done}
use Rattle.specification.specs.Layout.{LayoutModel}
use Rattle.specification.specs.Normal.{normal_of}
use Rattle.specification.specs.Verdict.{words_needed}
use Rattle.specification.specs.Record.{with_buffer, length_field}
use Rattle.specification.specs.RecordClaims.{Bytes}
use Rattle.view.specs.declared.layout.Layout.{Layout}
use Rattle.view.specs.Model.{model_of}
use Rattle.record.specs.Writer.{wrote_of, Wrote}
use Rattle.record.specs.Reading.{Reading}

-- the second call is lent as many words as the first was, or 16,777,217
abbrev pub IsLentAgain : (scratch scratch' : List ℕ) → Type 0
IsLentAgain scratch scratch' = (length scratch ≤ length scratch') ⊎ (16777217 ≤ length scratch')

pub record LentClaims : Type 0 where
  -- a writer that wrote, and a reader that read, were lent what the verdict needs
  pub lent_to_write : (l : Layout) (output scratch output-then scratch-then : List ℕ) (wrote : Result BytePlace Refusal) (n : ℕ) → Wrote l output scratch wrote output-then scratch-then → wrote_of wrote ≡ done n
      → words_needed (normal_of (model_of l)).axes ≤ length scratch
  pub lent_to_read : (bytes scratch scratch-then : List ℕ) (l : Layout) → Reading bytes scratch (done (model_of l)) scratch-then → words_needed (model_of l).axes ≤ length scratch
  -- written twice: the same record again
  pub write_write : (l : Layout) (output scratch output-then scratch-then : List ℕ) (wrote : Result BytePlace Refusal) (n : ℕ) → Wrote l output scratch wrote output-then scratch-then → wrote_of wrote ≡ done n
      → (output' scratch' output-then' scratch-then' : List ℕ) (wrote' : Result BytePlace Refusal) → IsLentAgain scratch scratch' → n ≤ length output' → Wrote l output' scratch' wrote' output-then' scratch-then'
      → (wrote_of wrote' ≡ done n) × (take n output-then' ≡ take n output-then)
  -- written, then read: the normal form
  pub write_read : (l : Layout) (output scratch output-then scratch-then : List ℕ) (wrote : Result BytePlace Refusal) (n : ℕ) → Wrote l output scratch wrote output-then scratch-then → wrote_of wrote ≡ done n
      → (scratch' scratch-then' : List ℕ) (answer : Outcome LayoutModel) → IsLentAgain scratch scratch' → Reading output-then scratch' answer scratch-then'
      → answer ≡ done (with_buffer (normal_of (model_of l)))
  -- read twice: the same layout again
  pub read_read : (bytes scratch scratch-then : List ℕ) (l : Layout) → Reading bytes scratch (done (model_of l)) scratch-then
      → (scratch' scratch-then' : List ℕ) (answer : Outcome LayoutModel) → IsLentAgain scratch scratch' → Reading bytes scratch' answer scratch-then' → answer ≡ done (model_of l)
  -- read, then written: the front of the bytes again
  pub read_write : (bytes scratch scratch-then : List ℕ) (l : Layout) → Bytes bytes → Reading bytes scratch (done (model_of l)) scratch-then
      → (output scratch' output-then scratch-then' : List ℕ) (wrote : Result BytePlace Refusal) → IsLentAgain scratch scratch' → length_field bytes ≤ length output
      → Wrote l output scratch' wrote output-then scratch-then'
      → (wrote_of wrote ≡ done (length_field bytes)) × (take (length_field bytes) output-then ≡ take (length_field bytes) bytes)
