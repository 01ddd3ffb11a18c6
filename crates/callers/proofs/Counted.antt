-- What the count of a judgement says, out of what `verdicts_hold` promises of the definition and `is_injective_axes` of its answer.
use Rattle.std.proofs.Common.{◌≡◌, ◌↔◌, refl, sym, ap, ◌∙◌, ℕ, suc, zero, ◌<◌, ◌≤◌, List, ◌++◌, length, Result, Ok, Err, IfOk, IsOk, inl, inr, arith}
use mathlib.Core.Logic.{◌⊎◌}
use lib.ListN.{length-append, get_or-append}
use Rattle.specification.specs.Axis.{Axis}
use Rattle.specification.specs.Outcome.{Outcome, done, refused}
use Rattle.specification.specs.Search.{ActiveAxis, half, CompletesAt}
use Rattle.specification.specs.Verdict.{Verdict, Judged, judge, longer, smaller, active_from, block_of, words_needed}
use Rattle.specification.specs.Verdict as verdict
use Rattle.specification.specs.VerdictClaims.{VerdictClaims, WordsClaims}
use Rattle.specification.specs.CountClaims.{Searches, IsSetApart, TwoCollide, judged, CountClaims}
use Rattle.specification.specs.BlockClaims.{BlockClaims, EntryOf, ActiveAxisOf, sorted_active}
use Rattle.specification.proofs.OutcomeLaws.{done_inj, passed}
use Rattle.view.specs.declared.layout.Refusal.{Refusal}
use Rattle.injectivity.specs.declared.Judgement.{Judgement}
use Rattle.injectivity.specs.declared.Judgement.TheVariants.{Distinct, Repeated, Undecided}
use Rattle.injectivity.specs.Judgement.{Told, told_of, judged_of, axes_judged, count_told}
use Rattle.injectivity.proofs.PlanLaws.{few_axes}
use Rattle.callers.specs.Counts.{others_in, SearchTells}

-- ---- the answer of the call, and the definition's

told_repeated : (r : Result Judgement Refusal) (c : ℕ) → judged_of r ≡ done (record { answer = verdict.Repeated; count = c }) → r ≡ Ok (Repeated c)
told_repeated (Ok (Distinct n)) c e = let q = ap (λ (t : Told). t.answer) (done_inj e) in absurd cc
told_repeated (Ok (Repeated n)) c e = let q = ap (λ (t : Told). t.count) (done_inj e) in cc
told_repeated (Ok Undecided) c e = let q = ap (λ (t : Told). t.answer) (done_inj e) in absurd cc
told_repeated (Err why) c e = absurd cc

told_distinct : (r : Result Judgement Refusal) (c : ℕ) → judged_of r ≡ done (record { answer = verdict.Distinct; count = c }) → r ≡ Ok (Distinct c)
told_distinct (Ok (Distinct n)) c e = let q = ap (λ (t : Told). t.count) (done_inj e) in cc
told_distinct (Ok (Repeated n)) c e = let q = ap (λ (t : Told). t.answer) (done_inj e) in absurd cc
told_distinct (Ok Undecided) c e = let q = ap (λ (t : Told). t.answer) (done_inj e) in absurd cc
told_distinct (Err why) c e = absurd cc

-- of an outcome that frees nothing all is told
all_told : (o : Outcome Judged) (v : Verdict) (c : ℕ) → ((j : Judged) → o ≡ done j → j.freed ≡ 0) → told_of o ≡ done (record { answer = v; count = c }) → o ≡ judged v c
all_told (done j) v c f e = let t = done_inj e in λ i. done (record { answer = (t i).answer; count = (t i).count; freed = f j refl i })
all_told (refused number values) v c f e = absurd cc

module _ (axes : List Axis) (words : ℕ) (r : Result Judgement Refusal) (v : VerdictClaims) (w : WordsClaims) (few : length axes ≤ 16) (s : Searches axes)
    (told : judged_of r ≡ told_of (axes_judged axes words)) where
  told_by_judge : judged_of r ≡ told_of (judge axes words)
  told_by_judge = told ∙ ap told_of (few_axes axes words few)

  -- the search uses no scratch
  no_words : words_needed axes ≡ 0
  no_words = w.none axes (λ e. omega (arith, e.past_search, s.within))

  nothing_freed : (j : Judged) → judge axes words ≡ done j → j.freed ≡ 0
  nothing_freed j e = v.freed_are axes words j e ∙ no_words

  as_repeated : (c : ℕ) → (r ≡ Ok (Repeated c)) ↔ (judge axes words ≡ judged verdict.Repeated c)
  as_repeated c = (
    λ e. all_told (judge axes words) verdict.Repeated c nothing_freed (sym told_by_judge ∙ ap judged_of e),
    λ e. told_repeated r c (told_by_judge ∙ ap told_of e),
  )

  as_distinct : (c : ℕ) → (r ≡ Ok (Distinct c)) ↔ (judge axes words ≡ judged verdict.Distinct c)
  as_distinct c = (
    λ e. all_told (judge axes words) verdict.Distinct c nothing_freed (sym told_by_judge ∙ ap judged_of e),
    λ e. told_distinct r c (told_by_judge ∙ ap told_of e),
  )

-- ---- the two set apart are active axes

front_entry : (front behind : List ActiveAxis) (a : ActiveAxis) → EntryOf front a → EntryOf (front ++ behind) a
front_entry front behind a e = record {
  place = e.place;
  in_list = omega (arith, length-append front behind, e.in_list);
  stands_there = get_or-append front behind (record { axis = 0; extent = 0; stride = 0 }) e.place e.in_list ∙ e.stands_there;
}

of_block_active : (axes : List Axis) (a : ActiveAxis) → BlockClaims → EntryOf (block_of axes) a → ActiveAxisOf axes a
of_block_active axes a b e =
    let f = b.in_front axes in
    let sorted : EntryOf (sorted_active axes) a = rw f.1 (front_entry (block_of axes) f.0 a e) in
    (b.listed axes a).0 ((b.sorted smaller (active_from 0 axes) a).0 sorted)

first_active : (axes : List Axis) (a b : ActiveAxis) → BlockClaims → IsSetApart axes a b → ActiveAxisOf axes a
first_active axes a b k t = of_block_active axes a k ((k.sorted longer (block_of axes) a).0 (rw t.first_two (record { place = 0; in_list = omega arith; stands_there = refl })))

second_active : (axes : List Axis) (a b : ActiveAxis) → BlockClaims → IsSetApart axes a b → ActiveAxisOf axes b
second_active axes a b k t = of_block_active axes b k ((k.sorted longer (block_of axes) b).0 (rw t.first_two (record { place = 1; in_list = omega arith; stands_there = refl })))

-- ---- what the answer says

zero_is_none : (c : ℕ) → judged verdict.Repeated 0 ≡ judged verdict.Repeated (suc c) → ⊥
zero_is_none c e = let z = ap (λ (j : Judged). j.count) (done_inj e) in omega (arith, z)

repeated_is_not : (c d : ℕ) → judged verdict.Repeated c ≡ judged verdict.Distinct d → ⊥
repeated_is_not c d e = let z = ap (λ (j : Judged). j.answer) (done_inj e) in absurd cc

-- places counted from 1, and numbers from 0
from_one : (P : ℕ → Type 0) (last : ℕ) → ((d : ℕ) → d < last → ¬ (P (suc d))) → (n : ℕ) → 0 < n → n ≤ last → ¬ (P n)
from_one P last f zero h k = absurd (omega (arith, h))
from_one P last f (suc d) h k = f d (omega (arith, k))

pub search_tells : (axes : List Axis) (words : ℕ) (r : Result Judgement Refusal) → BlockClaims → VerdictClaims → WordsClaims → CountClaims → length axes ≤ 16 → Searches axes
    → judged_of r ≡ told_of (axes_judged axes words) → SearchTells axes r
search_tells axes words r k v w c few s told =
    let t = c.two_there axes s in
    let a = t.0 in
    let b = t.1 in
    let apart = t.2 in
    let l = c.two_largest axes a b apart in
    let alone = c.alone axes a b words s apart in
    record {
      one = a;
      other = b;
      set_apart = apart;
      one_active = first_active axes a b k apart;
      other_active = second_active axes a b k apart;
      one_larger = l.0;
      others_smaller = l.1;
      alone = let e = as_repeated axes words r v w few s told 0 in (λ q. alone.0 (e.0 q), λ z. e.1 (alone.1 z));
      place = λ n.
          let e = as_repeated axes words r v w few s told (suc n) in
          let p = c.place axes a b words n s apart in (
            λ q. let none = λ (z : TwoCollide a b). zero_is_none n (sym (alone.1 z) ∙ e.0 q) in
                let f = (p none).0 (e.0 q) in
                (none, record { within = omega (arith, f.0); completed = f.1; none_before = λ d h i. from_one (CompletesAt a b (others_in axes)) n f.2 d h (omega (arith, i)) }),
            λ f. e.1 ((p f.0).1 (omega (arith, f.1.within), f.1.completed, λ d h. f.1.none_before (suc d) (omega arith) (omega (arith, h)))),
          );
      passed =
          let e = as_distinct axes words r v w few s told (half (others_in axes)) in
          let p = c.all_passed axes a b words s apart in (
            λ q. let none = λ (z : TwoCollide a b). repeated_is_not 0 (half (others_in axes)) (sym (alone.1 z) ∙ e.0 q) in
                (none, λ d h i. from_one (CompletesAt a b (others_in axes)) (half (others_in axes)) ((p none).0 (e.0 q)) d h i),
            λ f. e.1 ((p f.0).1 (λ d h. f.1 (suc d) (omega arith) (omega (arith, h)))),
          );
    }

-- the search refuses nothing
answered_of : (r : Result Judgement Refusal) (j : Judged) → judged_of r ≡ told_of (done j) → IsOk r
answered_of (Ok j) k e = refl
answered_of (Err why) k e = absurd cc

unrefused : (axes : List Axis) (words : ℕ) → VerdictClaims → WordsClaims → Searches axes → (number : ℕ) (values : List ℕ) → judge axes words ≡ refused number values → ⊥
unrefused axes words v w s number values e = by (v.no_other axes words number values e)
  where
    by : (number ≡ 8) ⊎ ((number ≡ 3) ⊎ (number ≡ 9)) → ⊥
    by (inl n) = let p = ((v.eight axes words values).0 (rw n at e)).0 in let q = s.comes.not_eight in absurd cc
    by (inr (inl n)) = let p = ((v.three axes words values).0 (rw n at e)).3 in let q = s.comes.not_three in absurd cc
    by (inr (inr n)) = omega (arith, ((v.needed axes words values).0 (rw n at e)).0, w.none axes (λ k. omega (arith, k.past_search, s.within)))

-- elsewhere the count is 0
counted_of : (r : Result Judgement Refusal) (o : Outcome Judged) → ((j : Judged) → o ≡ done j → j.count ≡ 0) → judged_of r ≡ told_of o → IfOk r (λ j. count_told j ≡ 0)
counted_of (Ok (Distinct n)) (done j) f e = let z = ap (λ (t : Told). t.count) (done_inj e) in omega (arith, z, f j refl)
counted_of (Ok (Repeated n)) (done j) f e = let z = ap (λ (t : Told). t.count) (done_inj e) in omega (arith, z, f j refl)
counted_of (Ok Undecided) o f e = refl
counted_of (Ok j) (refused number values) f e = absurd cc
counted_of (Err why) o f e = tt

module _ (axes : List Axis) (words : ℕ) (r : Result Judgement Refusal) (v : VerdictClaims) (w : WordsClaims) (c : CountClaims)
    (told : judged_of r ≡ told_of (axes_judged axes words)) where
  pub search_answered : length axes ≤ 16 → Searches axes → IsOk r
  search_answered few s =
      by (judge axes words) refl
    where
      by : (o : Outcome Judged) → judge axes words ≡ o → IsOk r
      by (done j) e = answered_of r j (told_by_judge axes words r v w few s told ∙ ap told_of e)
      by (refused number values) e = absurd (unrefused axes words v w s number values e)

  pub count_elsewhere : ¬ (Searches axes) → IfOk r (λ j. count_told j ≡ 0)
  unfolding axes_judged
  count_elsewhere n = counted_of r (axes_judged axes words) (λ j e. c.elsewhere axes words j n (passed _ _ _ e).1) told
