-- Calls of the views made one after another by any caller: what each answered, and the next call on the layout that it handed back.
use Rattle.std.specs.Prelude.{List, [], ◌∷◌, ◌≡◌, ℕ, map, Result}
use Rattle.specification.specs.Outcome.{Check}
use Rattle.specification.specs.Views.{permute, diagonal_view, broadcast}
use Rattle.specification.specs.Calls.{Call, permuting, diagonal, broadcasting, after_call, answers_of, end_of}
use Rattle.view.specs.declared.layout.Layout.{Layout}
use Rattle.view.specs.declared.layout.Refusal.{Refusal}
use Rattle.view.specs.Answers.{outcome_of}
use Rattle.view.specs.Model.{model_of, told}
use Rattle.record.specs.declared.calls.Call as code
use Rattle.record.specs.Calls.{call_in, RunTo}

-- what `after` promises of a call made on `l`: the answer given and the layout handed back are the definition's
abbrev pub CallMade : Layout → Call → Result (Unit {0}) Refusal → Layout → Type 0
CallMade l c answer next = told answer next ≡ after_call (model_of l) c

-- calls made one after another, each on the layout that the one before handed back, also if that one was refused;
-- with what each answered, in numbers and values, and the layout at the end
pub data Chain : Layout → List Call → List Check → Layout → Type 0 where
  no_more : {l : Layout} → Chain l [] [] l
  called : {l end : Layout} {c : Call} {calls : List Call} {answers : List Check} (answer : Result (Unit {0}) Refusal) (next : Layout)
      → CallMade l c answer next → Chain next calls answers end → Chain l (c ∷ calls) (outcome_of answer ∷ answers) end

-- some chain of these calls
pub record SomeChain (start : Layout) (calls : List Call) : Type 0 where
  pub answers : List Check
  pub end : Layout
  pub chain : Chain start calls answers end

-- the answers that were given and the layout that was handed back last are the definition's
pub record AsDefined (start : Layout) (calls : List Call) (answers : List Check) (end : Layout) : Type 0 where
  pub answers_are : answers ≡ answers_of (model_of start) calls
  pub end_is : model_of end ≡ end_of (model_of start) calls

pub record ChainClaims : Type 0 where
  -- what each view promises, by value or in place, is such a call
  pub permuted : (l next : Layout) (answer : Result (Unit {0}) Refusal) (order : List ℕ) → told answer next ≡ permute (model_of l) order → CallMade l (permuting order) answer next
  pub fused : (l next : Layout) (answer : Result (Unit {0}) Refusal) (pairs : List (ℕ × ℕ)) → told answer next ≡ diagonal_view (model_of l) pairs → CallMade l (diagonal pairs) answer next
  pub stretched : (l next : Layout) (answer : Result (Unit {0}) Refusal) (targets : List ℕ) → told answer next ≡ broadcast (model_of l) targets → CallMade l (broadcasting targets) answer next
  -- every chain is the definition's list
  pub as_defined : {start end : Layout} {calls : List Call} {answers : List Check} → Chain start calls answers end → AsDefined start calls answers end
  -- from every layout there is one of every list of calls, so that this is not said of nothing
  pub there : (start : Layout) (calls : List Call) → SomeChain start calls
  -- every list of calls is that of some calls of the code, number for number
  pub given : (calls : List Call) → (list : List code.Call) × (map call_in list ≡ calls)
  -- and `run` comes to the layout that they come to if they are made one by one
  pub as_run : (start end ran : Layout) (calls : List code.Call) (answers : List Check) → RunTo start calls ran → Chain start (map call_in calls) answers end → model_of ran ≡ model_of end
