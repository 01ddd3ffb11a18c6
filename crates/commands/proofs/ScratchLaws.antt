-- A call that is refused 9 with the words that it needs while it is lent fewer, and answers the same with as many or more.
-- Lent none and then the words that it lacked, it answers what it answers with the most that a verdict needs.
use Rattle.std.proofs.Common.{◌≡◌, not, ◌||◌, eqb, ltb, ℤ, ◌⊎◌, inl, inr, ℕ, ◌<◌, ◌≤◌, Bool, true, false, List, [], ◌∷◌, length, take, drop, Option, Some, None, Result, Ok, Err, unwrap_or, refl, sym, ap, ◌∙◌, arith}
use Rattle.std.proofs.lemmas.Bool.{lt-ltb, le-ltb, cases_lt}
use Rattle.std.proofs.lemmas.List.{take_at}
use Rattle.specification.specs.Axis.{Axis}
use Rattle.specification.specs.Outcome.{Outcome, Check, done, refused, refuse_if, ◌>>◌, ◌>>=◌}
use Rattle.specification.specs.Search.{ActiveAxis, span_sum, total, words_for}
use Rattle.specification.specs.Verdict.{Plan, answered, enumerated, plan_of, carry_out, judge, words_of}
use Rattle.specification.proofs.OutcomeLaws.{clash, refused-inj, refuse-yes, refuse-no, bind-refused}
use Rattle.specification.proofs.PlanCases.{judged_as}
use Rattle.specification.specs.Axis.{axes_of_lists}
use Rattle.specification.specs.Layout.{LayoutModel, rank, is_too_long}
use Rattle.specification.specs.Normal.{normal_form}
use Rattle.specification.specs.Record.{Made, record_length, record_bytes, verdict_byte, fields_right, layout_from, is_normal_form, verdict_field, read_of, written, write_answer, output_after, Writing}
use Rattle.specification.specs.Verdict.{verdict}
use Rattle.injectivity.specs.declared.Judgement.{Judgement}
use Rattle.injectivity.specs.Judgement.{axes_judged, told_of, verdict_told, judged_of}
use Rattle.injectivity.proofs.WordsLaws.{enough_words}
use Rattle.record.specs.declared.fields.BytePlace.{BytePlace}
use Rattle.record.specs.Reading.{layout_read}
use Rattle.record.specs.Writer.{wrote_of}
use Rattle.view.specs.declared.layout.Layout.{Layout}
use Rattle.view.specs.Model.{model_of, first_axes, layout_outcome}
use Rattle.view.proofs.AxesLaws.{length_first_axes}
use Rattle.view.specs.Answers.{outcome_by}
use Rattle.view.specs.declared.layout.Refusal.{Refusal}
use Rattle.view.specs.declared.layout.Refusal.TheVariants.{TooManyAxes, LengthsDiffer, OutOfRange, WrongLength, BadAxis, BadExtent, BadIndex, TooManyPositions, ShortScratch, ShortOutput, NotARecord, ExtentsDiffer, ShortReadings, NotDistinct, EmptyAxis, LongAxis}
use Rattle.commands.specs.Scratch.{or_most, words_lacking, bytes_made, front_written}

-- refused 9 below the words needed, and the same from there on
pub record Steady {A : Type 0} (f : ℕ → Outcome A) : Type 0 where
  pub need : ℕ
  pub bounded : need ≤ 16777217
  pub short : (words : ℕ) → words < need → f words ≡ refused 9 (need ∷ [])
  pub enough : (words : ℕ) → need ≤ words → f words ≡ f need

-- ---- the two tries

module _ {A B T : Type 0} (f : ℕ → Outcome A) (steady : Steady f) (told : Outcome A → Outcome B) (tells : (number : ℕ) (values : List ℕ) → told (refused number values) ≡ refused number values) (view : T → B) where
  none-short : 0 < steady.need → (first : Result T Refusal) → outcome_by view first ≡ told (f 0) → words_lacking None first ≡ Some steady.need
  none-short h first e = go first (e ∙ ap told (steady.short 0 h) ∙ tells 9 (steady.need ∷ []))
    where
      go : (first : Result T Refusal) → outcome_by view first ≡ refused 9 (steady.need ∷ []) → words_lacking None first ≡ Some steady.need
      go (Ok x) e = absurd (clash e)
      go (Err (ShortScratch n)) e = cc
      go (Err TooManyAxes) e = absurd (omega (arith, (refused-inj e).0))
      go (Err LengthsDiffer) e = absurd (omega (arith, (refused-inj e).0))
      go (Err OutOfRange) e = absurd (omega (arith, (refused-inj e).0))
      go (Err (WrongLength a b)) e = absurd (omega (arith, (refused-inj e).0))
      go (Err (BadAxis a b)) e = absurd (omega (arith, (refused-inj e).0))
      go (Err (BadExtent a)) e = absurd (omega (arith, (refused-inj e).0))
      go (Err (BadIndex a)) e = absurd (omega (arith, (refused-inj e).0))
      go (Err TooManyPositions) e = absurd (omega (arith, (refused-inj e).0))
      go (Err (ShortOutput a)) e = absurd (omega (arith, (refused-inj e).0))
      go (Err NotARecord) e = absurd (omega (arith, (refused-inj e).0))
      go (Err ExtentsDiffer) e = absurd (omega (arith, (refused-inj e).0))
      go (Err ShortReadings) e = absurd (omega (arith, (refused-inj e).0))
      go (Err NotDistinct) e = absurd (omega (arith, (refused-inj e).0))
      go (Err EmptyAxis) e = absurd (omega (arith, (refused-inj e).0))
      go (Err LongAxis) e = absurd (omega (arith, (refused-inj e).0))

  at-most : (words : ℕ) → steady.need ≤ words → f (or_most None) ≡ f words
  at-most words h = steady.enough 16777217 steady.bounded ∙ sym (steady.enough words h)

  -- a first try that lacks nothing stands
  pub first_stands : (words : Option ℕ) (first : Result T Refusal) → outcome_by view first ≡ told (f (unwrap_or words 0)) → words_lacking words first ≡ None → f (or_most words) ≡ f (unwrap_or words 0)
  first_stands (Some n) first e l = refl
  first_stands None first e l = go (cases_lt 0 steady.need)
    where
      go : (0 < steady.need) ⊎ (steady.need ≤ 0) → f (or_most None) ≡ f 0
      go (inl h) = absurd cc (none-short h first e)
      go (inr h) = at-most 0 h

  -- and else one with the words that it lacked
  pub second_stands : (words : Option ℕ) (first : Result T Refusal) (n : ℕ) → outcome_by view first ≡ told (f (unwrap_or words 0)) → words_lacking words first ≡ Some n → f (or_most words) ≡ f n
  second_stands None first n e l = go (cases_lt 0 steady.need)
    where
      go : (0 < steady.need) ⊎ (steady.need ≤ 0) → f (or_most None) ≡ f n
      go (inl h) = let s = none-short h first e in let k : steady.need ≡ n = cc in at-most n (omega arith)
      go (inr h) = at-most n (omega arith)
  second_stands (Some m) first n e l = absurd cc

  -- so what is told of the try that stands is what is told with the most
  pub first_answer : (words : Option ℕ) (first : Result T Refusal) → outcome_by view first ≡ told (f (unwrap_or words 0)) → words_lacking words first ≡ None → outcome_by view first ≡ told (f (or_most words))
  first_answer words first e lacks = e ∙ ap told (sym (first_stands words first e lacks))

  pub second_answer : (words : Option ℕ) (first second : Result T Refusal) (k m n : ℕ) → outcome_by view first ≡ told (f k) → k ≡ unwrap_or words 0 → words_lacking words first ≡ Some n
      → outcome_by view second ≡ told (f m) → m ≡ n → outcome_by view second ≡ told (f (or_most words))
  second_answer words first second k m n e at-first lacks d at-second =
      d ∙ ap (λ w. told (f w)) at-second ∙ ap told (sym (second_stands words first n (e ∙ ap (λ w. told (f w)) at-first) lacks))

-- ---- what is steady

-- what does not look at the words
pub steady_same : {A : Type 0} (o : Outcome A) → Steady (λ words. o)
steady_same o = record { need = 0; bounded = omega arith; short = λ words h. absurd (omega arith); enough = λ words h. refl }

-- what is made of a steady call, its refusal kept
pub steady_by : {A B : Type 0} (f : ℕ → Outcome A) (g : Outcome A → Outcome B) → ((values : List ℕ) → g (refused 9 values) ≡ refused 9 values) → Steady f → Steady (λ words. g (f words))
steady_by f g keeps s = record {
  need = s.need;
  bounded = s.bounded;
  short = λ words h. ap g (s.short words h) ∙ keeps (s.need ∷ []);
  enough = λ words h. ap g (s.enough words h);
}

-- a steady call behind a rule
pub steady_checked : {A : Type 0} (t : Bool) (number : ℕ) (values : List ℕ) (f : ℕ → Outcome A) → Steady f → Steady (λ words. refuse_if t number values >> f words)
unfolding refuse_if ◌>>◌
steady_checked true number values f s = steady_same (refused number values)
steady_checked false number values f s = s

-- a steady call behind a chain of rules
pub steady_behind : {A : Type 0} (rules : Check) (f : ℕ → Outcome A) → Steady f → Steady (λ words. rules >> f words)
unfolding ◌>>◌
steady_behind (done u) f s = s
steady_behind (refused number values) f s = steady_same (refused number values)

-- a steady call that goes on with an answer
pub steady_bound : {A B : Type 0} (o : Outcome A) (f : A → ℕ → Outcome B) → ((a : A) → Steady (f a)) → Steady (λ words. o >>= λ a. f a words)
unfolding ◌>>=◌
steady_bound (done a) f s = s a
steady_bound (refused number values) f s = steady_same (refused number values)

-- ---- the verdict

with_enough : (words : ℕ) (block : List ActiveAxis) → words_for (total block) (span_sum block) ≤ words → carry_out words (enumerated block) ≡ done (judged_as (enumerated block))
unfolding carry_out
with_enough words block h = refuse-no 9 (words_for (total block) (span_sum block) ∷ []) (done (judged_as (enumerated block))) (le-ltb words (words_for (total block) (span_sum block)) h)

steady_plan : (p : Plan) → words_of (done p) ≤ 16777217 → Steady (λ words. carry_out words p)
unfolding words_of carry_out
steady_plan (answered v c) b = steady_same (done (judged_as (answered v c)))
steady_plan (enumerated block) b = record {
  need = words_for (total block) (span_sum block);
  bounded = b;
  short = λ words h. refuse-yes 9 (words_for (total block) (span_sum block) ∷ []) (done (judged_as (enumerated block))) (lt-ltb words (words_for (total block) (span_sum block)) h);
  enough = λ words h. with_enough words block h ∙ sym (with_enough (words_for (total block) (span_sum block)) block (omega arith));
}

pub steady_judge : (axes : List Axis) → Steady (judge axes)
unfolding judge ◌>>=◌
steady_judge axes = go (plan_of axes) (enough_words axes)
  where
    go : (o : Outcome Plan) → words_of o ≤ 16777217 → Steady (λ words. o >>= carry_out words)
    go (done p) b = steady_plan p b
    go (refused number values) b = steady_same (refused number values)

-- ---- the four calls

-- the verdict of axes
module _ (axes : List Axis) where
  steady_axes : Steady (axes_judged axes)
  unfolding axes_judged
  steady_axes = steady_checked (is_too_long axes) 1 [] (judge axes) (steady_judge axes)

  -- of more than 16 axes, whatever is lent
  pub axes_too_many : (words : ℕ) → 16 < length axes → axes_judged axes words ≡ refused 1 []
  unfolding axes_judged refuse_if ◌>>◌
  axes_too_many words h = rw (lt-ltb 16 (length axes) h) refl

  pub axes_first : (words : Option ℕ) (first : Result Judgement Refusal) → judged_of first ≡ told_of (axes_judged axes (unwrap_or words 0)) → words_lacking words first ≡ None
      → judged_of first ≡ told_of (axes_judged axes (or_most words))
  axes_first = first_answer (axes_judged axes) steady_axes told_of (λ number values. refl) verdict_told

  pub axes_second : (words : Option ℕ) (first second : Result Judgement Refusal) (k m n : ℕ) → judged_of first ≡ told_of (axes_judged axes k) → k ≡ unwrap_or words 0 → words_lacking words first ≡ Some n
      → judged_of second ≡ told_of (axes_judged axes m) → m ≡ n → judged_of second ≡ told_of (axes_judged axes (or_most words))
  axes_second = second_answer (axes_judged axes) steady_axes told_of (λ number values. refl) verdict_told

-- of a layout whose first places count
pub too_many_axes : (axes : List Axis) (rank words : ℕ) → 16 < rank → axes_judged (first_axes axes rank) words ≡ refused 1 []
too_many_axes axes rank words h = axes_too_many (first_axes axes rank) words (omega (arith, h, length_first_axes axes rank))

-- the verdict of two lists
module _ (extents : List ℕ) (strides : List ℤ) where
  steady_lists : Steady (verdict extents strides)
  unfolding verdict
  steady_lists =
      steady_checked (is_too_long extents || is_too_long strides) 1 [] (λ words. refuse_if (not (eqb (length extents) (length strides))) 2 [] >> judge (axes_of_lists extents strides) words)
      (steady_checked (not (eqb (length extents) (length strides))) 2 [] (judge (axes_of_lists extents strides)) (steady_judge (axes_of_lists extents strides)))

  pub lists_first : (words : Option ℕ) (first : Result Judgement Refusal) → judged_of first ≡ told_of (verdict extents strides (unwrap_or words 0)) → words_lacking words first ≡ None
      → judged_of first ≡ told_of (verdict extents strides (or_most words))
  lists_first = first_answer (verdict extents strides) steady_lists told_of (λ number values. refl) verdict_told

  pub lists_second : (words : Option ℕ) (first second : Result Judgement Refusal) (k m n : ℕ) → judged_of first ≡ told_of (verdict extents strides k) → k ≡ unwrap_or words 0 → words_lacking words first ≡ Some n
      → judged_of second ≡ told_of (verdict extents strides m) → m ≡ n → judged_of second ≡ told_of (verdict extents strides (or_most words))
  lists_second = second_answer (verdict extents strides) steady_lists told_of (λ number values. refl) verdict_told

-- the layout of a record
module _ (bytes : List ℕ) where
  steady_read : Steady (read_of bytes)
  unfolding read_of
  steady_read =
      steady_checked (not (fields_right bytes)) 11 [] _ (steady_checked (not (is_normal_form (layout_from bytes))) 11 [] _
      (steady_by (judge (layout_from bytes).axes) (λ o. o >>= λ j. refuse_if (not (eqb (verdict_byte j.answer) (verdict_field bytes))) 11 [] >> done (record { layout = layout_from bytes; answer = j.answer })) (λ values. bind-refused _ refl)
      (steady_judge (layout_from bytes).axes)))

  pub read_first : (words : Option ℕ) (first : Result Layout Refusal) → layout_outcome first ≡ layout_read (read_of bytes (unwrap_or words 0)) → words_lacking words first ≡ None
      → layout_outcome first ≡ layout_read (read_of bytes (or_most words))
  read_first = first_answer (read_of bytes) steady_read layout_read (λ number values. refl) model_of

  pub read_second : (words : Option ℕ) (first second : Result Layout Refusal) (k m n : ℕ) → layout_outcome first ≡ layout_read (read_of bytes k) → k ≡ unwrap_or words 0 → words_lacking words first ≡ Some n
      → layout_outcome second ≡ layout_read (read_of bytes m) → m ≡ n → layout_outcome second ≡ layout_read (read_of bytes (or_most words))
  read_second = second_answer (read_of bytes) steady_read layout_read (λ number values. refl) model_of

-- ---- the record of a layout

-- the front of the output is the record that the answer tells of
bytes_written : (o : Outcome Made) (answer : Result BytePlace Refusal) (before after : List ℕ) → wrote_of answer ≡ write_answer o → after ≡ output_after o before → front_written after answer ≡ bytes_made o
unfolding write_answer
bytes_written (done m) (Ok place) before after e out =
    let n : place.0 ≡ length m.bytes = cc in
    ap done (ap (take place.0) out ∙ take_at m.bytes (drop (length m.bytes) before) place.0 (sym n))
bytes_written (done m) (Err why) before after e out = absurd (clash (sym e))
bytes_written (refused number values) (Ok place) before after e out = absurd (clash e)
bytes_written (refused number values) (Err why) before after e out = cc

-- a call that lacked words leaves the output
output_kept : (o : Outcome Made) (words : Option ℕ) (n : ℕ) (answer : Result BytePlace Refusal) (before : List ℕ) → wrote_of answer ≡ write_answer o → words_lacking words answer ≡ Some n → output_after o before ≡ before
unfolding write_answer
output_kept (refused number values) words n answer before e lacks = refl
output_kept (done m) None n (Err why) before e lacks = absurd (clash (sym e))
output_kept (done m) None n (Ok place) before e lacks = absurd cc
output_kept (done m) (Some words) n answer before e lacks = absurd cc

module _ (l : LayoutModel) where
  steady_written : (room : ℕ) → Steady (written l room)
  unfolding written
  steady_written room = steady_bound (normal_form l) _ (λ n.
      steady_checked (ltb room (record_length (rank n))) 10 (record_length (rank n) ∷ []) _
      (steady_by (judge n.axes) (λ o. o >>= λ j. done (record { bytes = record_bytes n j.answer; freed = j.freed })) (λ values. bind-refused _ refl) (steady_judge n.axes)))

  tells : (number : ℕ) (values : List ℕ) → write_answer (refused number values) ≡ refused number values
  unfolding write_answer
  tells number values = refl

  module _ (words : Option ℕ) (first : Result BytePlace Refusal) (output output1 scratch scratch1 : List ℕ) (wrote : Writing l output scratch (wrote_of first) output1 scratch1) (lent : length scratch ≡ unwrap_or words 0) where
    abbrev written-with : ℕ → Outcome Made
    written-with = written l (length output)

    answer_is : wrote_of first ≡ write_answer (written-with (unwrap_or words 0))
    answer_is = rw lent at wrote.answer_is

    pub written_first : words_lacking words first ≡ None → front_written output1 first ≡ bytes_made (written-with (or_most words))
    written_first lacks =
        bytes_written (written-with (length scratch)) first output output1 wrote.answer_is wrote.output_is
        ∙ ap bytes_made (ap written-with lent ∙ sym (first_stands written-with (steady_written (length output)) write_answer tells (λ (place : BytePlace). place.0) words first answer_is lacks))

    pub written_second : (n : ℕ) → words_lacking words first ≡ Some n → (second : Result BytePlace Refusal) (output2 lent2 scratch2 : List ℕ) → Writing l output1 lent2 (wrote_of second) output2 scratch2 → length lent2 ≡ n
        → front_written output2 second ≡ bytes_made (written-with (or_most words))
    written_second n lacks second output2 lent2 scratch2 again lent-again =
        let kept : output1 ≡ output = wrote.output_is ∙ output_kept (written-with (length scratch)) words n first output wrote.answer_is lacks in
        bytes_written (written l (length output1) (length lent2)) second output1 output2 again.answer_is again.output_is
        ∙ ap bytes_made (ap (λ out. written l (length out) (length lent2)) kept ∙ ap written-with lent-again
        ∙ sym (second_stands written-with (steady_written (length output)) write_answer tells (λ (place : BytePlace). place.0) words first n answer_is lacks))
