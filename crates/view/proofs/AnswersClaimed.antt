-- The claims on reach and count, from those of the layout's offsets.
use Rattle.std.specs.Prelude.{if◌then◌else◌}
use mathlib.Core.Bool.{true, false}
use mathlib.Core.Logic.{inl, inr}
use Prim.Native.Nat.{ℕ, ◌<◌}
use mathlib.Core.List.{[]}
use mathlib.Core.Path.{◌≡◌, sym, ◌∙◌}
use native.Mathlib.Omega.{arith}
use lib.IntN.{ℤ}
use Rattle.specification.specs.Axis.{is_empty}
use Rattle.specification.specs.Outcome.{done, refused, pass, ◌>>◌}
use Rattle.specification.specs.Layout.{LayoutModel, rank, lowest, highest, handed, HandedRefused, too_many, not_accepted}
use Rattle.specification.proofs.OutcomeLaws.{clash}
use Rattle.specification.proofs.ReachClaimed.{reach_claims}
use Rattle.view.specs.Reach.{none, ends, reach_of}
use Rattle.view.specs.AnswerClaims.{ReachAnswerClaims, ElementCountClaims}
use Rattle.view.proofs.BoundsLaws.{reach_many, reach_empty, within-ends}
use Rattle.view.proofs.CountLaws.{count-many, element-count-of-axes, empty_extents}
use Rattle.std.proofs.lemmas.Int.{ints}

-- ---- reach

-- if the layout is accepted
reach-done : (l : LayoutModel) → handed l 0 ≡ pass → reach_of l ≡ done (if is_empty l.axes then none else ends (lowest l) (highest l))
unfolding reach_of ◌>>◌
reach-done l e = rw e

-- if it is not
reach-refused : (l : LayoutModel) {number : ℕ} → handed l 0 ≡ refused number [] → reach_of l ≡ refused number []
unfolding reach_of ◌>>◌
reach-refused l e = rw e

handed-refused : (l : LayoutModel) {number : ℕ} → reach_of l ≡ refused number [] → handed l 0 ≡ refused number []
unfolding reach_of ◌>>◌
handed-refused l e = grind (arith, ints)

empty-of-none : (l : LayoutModel) → (if is_empty l.axes then none else ends (lowest l) (highest l)) ≡ none → is_empty l.axes ≡ true
empty-of-none l e = grind (arith, ints)

ends_of : (l : LayoutModel) (low high : ℤ) → (if is_empty l.axes then none else ends (lowest l) (highest l)) ≡ ends low high
    → (is_empty l.axes ≡ false) × (lowest l ≡ low) × (highest l ≡ high)
ends_of l low high e = grind (arith, ints)

-- of a call without a list they are the axes
many-axes : (l : LayoutModel) → HandedRefused l 0 1 [] → 16 < rank l
many-axes l (too_many (inl h)) = h
many-axes l (too_many (inr h)) = absurd (omega arith)

pub reach_answer_claims : ReachAnswerClaims
reach_answer_claims = record {
  one = λ l. (
    λ e. many-axes l ((reach_claims.handed_refuses l 0 1 []).0 (handed-refused l e)),
    λ h. reach_many l h,
  );
  three = λ l few. (
    λ e a. clash (sym (reach-done l ((reach_claims.handed_passes l 0).1 (a, omega arith))) ∙ e),
    λ n. reach-refused l ((reach_claims.handed_refuses l 0 3 []).1 (not_accepted few (omega arith) n)),
  );
  no_ends = λ l few. (
    λ e. (reach_claims.empty_is l).0 (empty-of-none l (sym (within-ends l e).1)),
    λ e. reach_empty l few (sym (empty_extents l.axes) ∙ (reach_claims.empty_is l).1 e),
  );
  two_ends = λ l low high e.
      let found = ends_of l low high (sym (within-ends l e).1) in
      let r = reach_claims.reach l found.0 in
      record {
        low_there = (r.low_at, r.low_is, r.low ∙ found.1);
        high_there = (r.high_at, r.high_is, r.high ∙ found.2);
        between = λ k h. rw (← found.1, ← found.2) (r.between k h);
      };
}

-- ---- count

pub element_count_claims : ElementCountClaims
element_count_claims = record { one = count-many; of_axes = element-count-of-axes }
