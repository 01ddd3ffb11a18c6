-- When records agree: two accepted layouts, two lists of calls, and the two records that the writer puts into lent output.
-- `RecordsAgreeClaim` at the end is the statement; what stands before it are the words that it is said with. RULES, "Equal records".
use Rattle.std.specs.Prelude.{true, false, List, [], ◌∷◌, ◌↔◌, ◌≡◌, ℕ, ◌<◌, ◌≤◌, length, take, drop, slice_index_or}
use Rattle.specification.specs.Axis.{SharesOffset}
use Rattle.specification.specs.Outcome.{Outcome, Check, done, refused, pass}
use Rattle.specification.specs.Layout.{LayoutModel, rank, IsAccepted}
use Rattle.specification.specs.Normal.{normal_of, overfull}
use Rattle.specification.specs.Verdict.{words_needed, BothBudgetsPassed}
use Rattle.specification.specs.Record.{record_length, length_field, Writing}
use Rattle.specification.specs.Calls.{Call, after_call, answers_of, end_of}
use Rattle.specification.specs.ViewRules.{Passes, Refuses}
use Rattle.specification.specs.NormalClaims.{SameOffsets}

-- a list run from a layout, with the answer of each call and the end layout: a call that passes hands on its layout, a refused one the old layout
pub data Run : LayoutModel → List Call → List Check → LayoutModel → Type 0 where
  ended : {l : LayoutModel} → Run l [] [] l
  passed : {l end : LayoutModel} {c : Call} {calls : List Call} {answers : List Check} → Passes l c → Run (after_call l c).layout calls answers end → Run l (c ∷ calls) (pass ∷ answers) end
  turned_away : {l end : LayoutModel} {c : Call} {calls : List Call} {answers : List Check} {number : ℕ} {values : List ℕ} → Refuses l c number values → Run l calls answers end
      → Run l (c ∷ calls) (refused number values ∷ answers) end

-- the record in an output: the bytes that its length field counts
abbrev pub record_in : List ℕ → List ℕ
record_in output = take (length_field output) output

-- the writer's answer on the end layout x: refused 8, then 10, then 9, each exactly if it is due; else the length of the record
pub record AnsweredExactly (x : LayoutModel) (room words : ℕ) (answer : Outcome ℕ) : Type 0 where
  pub eight : overfull x.axes ≡ true → answer ≡ refused 8 []
  pub ten : overfull x.axes ≡ false → room < record_length (rank (normal_of x)) → answer ≡ refused 10 (record_length (rank (normal_of x)) ∷ [])
  pub nine : overfull x.axes ≡ false → record_length (rank (normal_of x)) ≤ room → words < words_needed (normal_of x).axes
      → answer ≡ refused 9 (words_needed (normal_of x).axes ∷ [])
  pub made : overfull x.axes ≡ false → record_length (rank (normal_of x)) ≤ room → words_needed (normal_of x).axes ≤ words
      → answer ≡ done (record_length (rank (normal_of x)))

-- the verdict byte of a record of x: 3 exactly if both budgets are passed for the normal form;
-- else 1 exactly if no two positions of x share an offset, and 2 exactly if two do
pub record TrueByte (x : LayoutModel) (byte : ℕ) : Type 0 where
  pub undecided : (byte ≡ 3) ↔ BothBudgetsPassed (normal_of x).axes
  pub distinct : ¬ (BothBudgetsPassed (normal_of x).axes) → (byte ≡ 1) ↔ ¬ (SharesOffset x.axes)
  pub repeated : ¬ (BothBudgetsPassed (normal_of x).axes) → (byte ≡ 2) ↔ SharesOffset x.axes

-- a record of x was made: its length field counts it, its verdict is true, and nothing past it or past the words needed was changed
pub record RecordMade (x : LayoutModel) (output scratch output-then scratch-then : List ℕ) : Type 0 where
  pub counted : length_field output-then ≡ record_length (rank (normal_of x))
  pub verdict : TrueByte x (slice_index_or output-then 3 0)
  pub as_long : length output-then ≡ length output
  pub behind : drop (record_length (rank (normal_of x))) output-then ≡ drop (record_length (rank (normal_of x))) output
  pub scratch_as_long : length scratch-then ≡ length scratch
  pub scratch_behind : drop (words_needed (normal_of x).axes) scratch-then ≡ drop (words_needed (normal_of x).axes) scratch

-- one of the two: a start, a call list, and the writer on the end layout, whatever output and scratch held
pub record Side (start : LayoutModel) (calls : List Call) (output scratch : List ℕ) (answer : Outcome ℕ) (output-then scratch-then : List ℕ) : Type 0 where
  pub run : Run start calls (answers_of start calls) (end_of start calls)
  pub answered : AnsweredExactly (end_of start calls) (length output) (length scratch) answer
  -- after a refusal output and scratch are as before
  pub unchanged : (number : ℕ) (values : List ℕ) → answer ≡ refused number values → (output-then ≡ output) × (scratch-then ≡ scratch)
  pub made : (n : ℕ) → answer ≡ done n → RecordMade (end_of start calls) output scratch output-then scratch-then

-- both, and the two records: equal exactly if the end layouts have equally many positions and the same offset at each
pub record RecordsAgree (a b : LayoutModel) (cs ds : List Call) (output scratch output-then scratch-then output' scratch' output-then' scratch-then' : List ℕ) (answer answer' : Outcome ℕ) : Type 0 where
  pub first : Side a cs output scratch answer output-then scratch-then
  pub second : Side b ds output' scratch' answer' output-then' scratch-then'
  pub equal_records : (n n' : ℕ) → answer ≡ done n → answer' ≡ done n' → (record_in output-then ≡ record_in output-then') ↔ SameOffsets (end_of a cs) (end_of b ds)

-- for every two accepted layouts, every two call lists, and every lent memory
abbrev pub RecordsAgreeClaim : Type 0
RecordsAgreeClaim = (a b : LayoutModel) → IsAccepted a → IsAccepted b → (cs ds : List Call)
    (output scratch output-then scratch-then output' scratch' output-then' scratch-then' : List ℕ) (answer answer' : Outcome ℕ)
    → Writing (end_of a cs) output scratch answer output-then scratch-then
    → Writing (end_of b ds) output' scratch' answer' output-then' scratch-then'
    → RecordsAgree a b cs ds output scratch output-then scratch-then output' scratch' output-then' scratch-then' answer answer'
