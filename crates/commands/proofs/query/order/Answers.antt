-- `order`: an output longer than every list is refused like one of one place more.
use Rattle.std.proofs.Common.{rules, arith, ◌≡◌, ◌≤◌, ◌<◌, ◌⊎◌, inl, inr, ℕ, ℤ, List, length, drop, min, eqb, Ok, Err, refl, sym, ap, ◌∙◌}
use Rattle.std.proofs.lemmas.Bool.{cases_lt, ne_eqb}
use Rattle.std.proofs.lemmas.List.{take_at}
use Rattle.specification.specs.Outcome.{Outcome, done, refused}
use Rattle.specification.specs.Beside.{index_order, order_after}
use Rattle.specification.proofs.OutcomeLaws.{clash}
use Rattle.view.specs.declared.layout.Refusal.{Refusal}
use Rattle.view.specs.Answers.{outcome_of, answer_of}
use Rattle.words.specs.Texts.{told_refusal}
use Rattle.commands.specs.Obeyed.{order_text}
use Rattle.commands.specs.Told.{told}
use Rattle.commands.proofs.query.order.Goals as goal

same_test : (n places room : ℕ) → room ≡ min places 65 → n ≤ 64 → eqb n places ≡ eqb n room
same_test n places room e few = go (cases_lt 65 places)
  where
    go : (65 < places) ⊎ (places ≤ 65) → eqb n places ≡ eqb n room
    go (inl h) = ne_eqb n places (λ k. omega arith) ∙ sym (ne_eqb n room (λ k. omega arith))
    go (inr h) = ap (eqb n) (omega arith)

same_order : (items strides : List ℤ) (places room : ℕ) → strides ≡ items → room ≡ min places 65 → length strides ≤ 64 → index_order items places ≡ index_order strides room
unfolding index_order
same_order items strides places room same e few = rw (← same, same_test (length strides) places room e few) refl

refused_is : (o : Outcome (List ℕ)) (why : Refusal) → outcome_of (Err why) ≡ answer_of o → told o ≡ Err (told_refusal why)
refused_is (done order) why e = absurd (clash (sym e))
refused_is (refused number values) why e = cc

given_is : (o : Outcome (List ℕ)) (before after : List ℕ) → outcome_of (Ok tt) ≡ answer_of o → after ≡ order_after o before → told o ≡ Ok after
given_is (done order) before after e out = cc
given_is (refused number values) before after e out = absurd (clash e)

pub returns-in_err-index_order_into : goal.returns-in_err-index_order_into
unfolding order_text
returns-in_err-index_order_into c =
    let same = same_order c.in_ok-strides.strides.items c.as_slice.result.now c.in_ok-places.places (length c.as_mut_slice.result.now) c.as_slice.ensures.value
    (c.as_mut_slice.ensures.len ∙ c.in_ok-order.ensures.len ∙ c.min.ensures) (omega (arith, c.as_slice.ensures.len, c.in_ok-strides.ensures.few)) in
    let e = ap told same ∙ refused_is _ c.in_err-index_order_into.field-0.0 (rw c.in_err-index_order_into.was at c.index_order_into.ensures.answered) in
    search rules

pub returns : goal.returns
unfolding order_text
returns c =
    let same = same_order c.in_ok-strides.strides.items c.as_slice.result.now c.in_ok-places.places (length c.as_mut_slice.result.now) c.as_slice.ensures.value
    (c.as_mut_slice.ensures.len ∙ c.in_ok-order.ensures.len ∙ c.min.ensures) (omega (arith, c.as_slice.ensures.len, c.in_ok-strides.ensures.few)) in
    let out = c.index_order_into.new.out in
    let whole = take_at out (drop (length out) c.in_ok-order.order.items) c.in_ok-order.order.len (omega (arith, c.index_order_into.auto.out, c.as_mut_slice.ensures.len)) in
    let e = ap told same ∙ given_is _ c.as_mut_slice.result.now out (rw c.in_ok-index_order_into.was at c.index_order_into.ensures.answered) c.index_order_into.ensures.written ∙ ap Ok (sym whole) in
    search rules
