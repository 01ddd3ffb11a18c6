-- A chain of calls is the definition's list, and from every layout there is one of every list: each answer of the definition is that of a `Result`.
-- A premise is read by `assumption`, so that one that says more is refused by the function that promises it, and not where it is used.
use Rattle.std.proofs.Common.{◌≡◌, refl, sym, ap, ◌∙◌, ℕ, ◌+◌, ◌<◌, ◌≤◌, List, [], ◌∷◌, length, map, drop, get_or, Err, Ok, Result, arith}
use Rattle.std.proofs.lemmas.List.{take_all, at_drop_more, at_drop_all}
use Rattle.specification.specs.Axis.{Axis}
use Rattle.specification.specs.Outcome.{Check, done, refused}
use Rattle.specification.specs.Layout.{LayoutModel, HandedRefused, too_many, not_accepted}
use Rattle.specification.specs.Views.{After}
use Rattle.specification.specs.Calls.{Call, permuting, diagonal, broadcasting, after_call, answers_of, end_of}
use Rattle.specification.specs.ViewRules as rules
use Rattle.specification.proofs.AnswerLaws.{answer_claims}
use Rattle.view.specs.declared.diagonal.AxisPair.{AxisPair}
use Rattle.view.specs.declared.layout.Layout.{Layout}
use Rattle.view.specs.declared.layout.Refusal.{Refusal}
use Rattle.view.specs.declared.layout.Refusal.TheVariants.{TooManyAxes, OutOfRange, WrongLength, BadAxis, BadExtent}
use Rattle.view.specs.Answers.{outcome_of}
use Rattle.view.specs.Model.{model_of, told}
use Rattle.view.specs.Ties.{pairs_in}
use Rattle.view.proofs.AxesLaws.{first_axes_take}
use Rattle.record.specs.declared.calls.Call as code
use Rattle.record.specs.declared.calls.Call.TheVariants.{Permute, DiagonalView, Broadcast}
use Rattle.record.specs.Calls.{call_in, RunTo}
use Rattle.record.specs.Chain.{CallMade, Chain, no_more, called, SomeChain, AsDefined, ChainClaims}

-- ---- every chain is the definition's list

as_defined : {start end : Layout} {calls : List Call} {answers : List Check} → Chain start calls answers end → AsDefined start calls answers end
unfolding answers_of end_of
as_defined no_more = record { answers_are = refl; end_is = refl }
as_defined (called {l = l} {c = c} {calls = calls} answer next made chain) =
    let e : told answer next ≡ after_call (model_of l) c = assumption made in
    let d = as_defined chain in
    record {
      answers_are = ap (λ (o : List Check). outcome_of answer ∷ o) d.answers_are ∙ ap (λ (a : After). a.answer ∷ answers_of a.layout calls) e;
      end_is = d.end_is ∙ ap (λ (a : After). end_of a.layout calls) e;
    }

-- ---- where what is left of a list ends: once a call was made, and when none is left

pub ends_later : (calls : List code.Call) (i : ℕ) (d : code.Call) (l next : Layout) (answer : Result (Unit {0}) Refusal) → i < length calls → CallMade l (call_in (get_or calls i d)) answer next
    → end_of (model_of next) (map call_in (drop (i + 1) calls)) ≡ end_of (model_of l) (map call_in (drop i calls))
unfolding end_of
ends_later calls i d l next answer h made =
    let e : told answer next ≡ after_call (model_of l) (call_in (get_or calls i d)) = assumption made in
    ap (λ (a : After). end_of a.layout (map call_in (drop (i + 1) calls))) e ∙ sym (at_drop_more (λ (left : List code.Call). end_of (model_of l) (map call_in left)) calls i d h)

pub none_left : (calls : List code.Call) (i : ℕ) (l : LayoutModel) → length calls ≤ i → end_of l (map call_in (drop i calls)) ≡ l
unfolding end_of
none_left calls i l h = at_drop_all (λ (left : List code.Call). end_of l (map call_in left)) calls i h

-- ---- there is a chain of every list

abbrev layout_of : LayoutModel → Layout
layout_of x = record { len = x.buffer; offset = record { 0 = x.offset }; rank = length x.axes; axes = x.axes }

model-again : (x : LayoutModel) → model_of (layout_of x) ≡ x
model-again x = ap (λ (axes : List Axis). record { buffer = x.buffer; offset = x.offset; axes = axes }) (first_axes_take x.axes (length x.axes) (omega arith) ∙ take_all (length x.axes) x.axes (omega arith))

-- a number and values that some `Refusal` has
abbrev Row : ℕ → List ℕ → Type 0
Row number values = (why : Refusal) × (outcome_of {A = Unit {0}} (Err why) ≡ refused number values)

row_handed : (l : LayoutModel) (entries number : ℕ) (values : List ℕ) → HandedRefused l entries number values → Row number values
row_handed l entries number values (too_many h) = (TooManyAxes, refl)
row_handed l entries number values (not_accepted h k a) = (OutOfRange, refl)

row_of : (l : LayoutModel) (c : Call) (number : ℕ) (values : List ℕ) → rules.Refuses l c number values → Row number values
row_of l (permuting order) number values (rules.PermuteRefused.handed_in h) = row_handed l (length order) number values h
row_of l (permuting order) number values (rules.PermuteRefused.wrong_length a h e) = (WrongLength _ _, refl)
row_of l (permuting order) number values (rules.PermuteRefused.bad_entry a e i h before bad) = (BadAxis _ _, refl)
row_of l (diagonal pairs) number values (rules.DiagonalRefused.handed_in h) = row_handed l 0 number values h
row_of l (diagonal pairs) number values (rules.DiagonalRefused.outside a i h before bad) = (BadAxis _ _, refl)
row_of l (diagonal pairs) number values (rules.DiagonalRefused.same_axis a i h before k e) = (BadAxis _ _, refl)
row_of l (diagonal pairs) number values (rules.DiagonalRefused.sum_out a good p h bad) = (OutOfRange, refl)
row_of l (diagonal pairs) number values (rules.DiagonalRefused.not_checked a good sums e) = (OutOfRange, refl)
row_of l (broadcasting targets) number values (rules.BroadcastRefused.handed_in h) = row_handed l (length targets) number values h
row_of l (broadcasting targets) number values (rules.BroadcastRefused.wrong_length a h e) = (WrongLength _ _, refl)
row_of l (broadcasting targets) number values (rules.BroadcastRefused.bad_extent a e i h before bad) = (BadExtent _, refl)

-- what the definition answers is the answer of some `Result`
answer_of : (l : LayoutModel) (c : Call) → (answer : Result (Unit {0}) Refusal) × (outcome_of answer ≡ (after_call l c).answer)
answer_of l c = by (after_call l c).answer refl
  where
    by : (o : Check) → (after_call l c).answer ≡ o → (answer : Result (Unit {0}) Refusal) × (outcome_of answer ≡ (after_call l c).answer)
    by (done u) e = (Ok tt, sym e)
    by (refused number values) e = let r = row_of l c number values ((answer_claims.refuses l c number values).0 e) in (Err r.0, r.1 ∙ sym e)

some_chain : (start : Layout) (calls : List Call) → SomeChain start calls
some_chain start [] = record { answers = []; end = start; chain = no_more }
some_chain start (c ∷ calls) =
    let a = answer_of (model_of start) c in
    let next = layout_of (after_call (model_of start) c).layout in
    let e : told a.0 next ≡ after_call (model_of start) c = λ i. record { answer = a.1 i; layout = model-again (after_call (model_of start) c).layout i } in
    let t = some_chain next calls in
    record { answers = _; end = t.end; chain = called a.0 next (assumption e) t.chain }

-- ---- calls of the code

given_pairs : (pairs : List (ℕ × ℕ)) → (list : List AxisPair) × (pairs_in list ≡ pairs)
given_pairs [] = ([], refl)
given_pairs (pair ∷ rest) = let g = given_pairs rest in (record { 0 = pair.0; 1 = pair.1 } ∷ g.0, λ i. pair ∷ g.1 i)

given_call : (c : Call) → (call : code.Call) × (call_in call ≡ c)
given_call (permuting order) = (Permute (record { ref_ptr = (0, 0); now = order }), refl)
given_call (diagonal pairs) = let g = given_pairs pairs in (DiagonalView (record { ref_ptr = (0, 0); now = g.0 }), ap diagonal g.1)
given_call (broadcasting targets) = (Broadcast (record { ref_ptr = (0, 0); now = targets }), refl)

given : (calls : List Call) → (list : List code.Call) × (map call_in list ≡ calls)
given [] = ([], refl)
given (c ∷ calls) = let d = given_call c in let g = given calls in (d.0 ∷ g.0, λ i. d.1 i ∷ g.1 i)

as_run : (start end ran : Layout) (calls : List code.Call) (answers : List Check) → RunTo start calls ran → Chain start (map call_in calls) answers end → model_of ran ≡ model_of end
as_run start end ran calls answers r c = let e : model_of ran ≡ end_of (model_of start) (map call_in calls) = assumption r in e ∙ sym (as_defined c).end_is

pub chain_claims : ChainClaims
unfolding after_call
chain_claims = record {
  permuted = λ l next answer order e. assumption e;
  fused = λ l next answer pairs e. assumption e;
  stretched = λ l next answer targets e. assumption e;
  as_defined = as_defined;
  there = some_chain;
  given = given;
  as_run = as_run;
}
