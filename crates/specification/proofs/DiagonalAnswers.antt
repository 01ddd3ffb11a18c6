-- diagonal_view passes and is refused exactly as its rules say: the pairs in order, then the partial sums of strides, then check-in again.
use mathlib.Core.Bool.{true, false, not}
use mathlib.Core.List.{List, [], ◌∷◌}
use mathlib.Core.Logic.{◌≢◌}
use mathlib.Core.Path.{◌≡◌, refl, sym, ap, ◌∙◌}
use Prim.Native.Nat.{ℕ, zero, suc, max, ◌<◌, ◌≤◌}
use native.Mathlib.Decide.{ℕ_discrete}
use native.Mathlib.Omega.{arith}
use lib.Dec.{eqb, leb}
use lib.IntN.{ℤ, pos, ◌+ℤ◌}
use lib.ListN.{length, get_or, take}
use borrow.Author.Tests.{leb-false, lt-leb, eqb-false, ne_eqb, not-false}
use Rattle.integer.specs.Range.{fits}
use Rattle.specification.specs.Axis.{Axis}
use Rattle.specification.specs.Outcome.{Check, refuse_if, ◌>>◌}
use Rattle.specification.specs.Layout.{LayoutModel, rank, IsAccepted, HandedRefused}
use Rattle.specification.specs.Views.{with_axes, pair_fault, kept, stride_sum, stride_fault, members, sum_faults, diagonal_axes, diagonal_view}
use Rattle.specification.specs.ViewRules.{pair_at, GoodPair, SumsFit, Fuses, DiagonalRefused}
use Rattle.specification.proofs.ReachClaimed.{handed-answers, BoundsRefused, out_of_bounds, bounds-answers}
use Rattle.specification.proofs.AnswerRules.{Answers, Only, only, InOrder, sooner, later, FirstFault, first, restated, only-restated, some-refusal, test-answers, of-answer, then-answers, then-only, then-assoc, in_turn, turn-answers}

-- ---- the pairs

-- 5 with the larger axis, then 5 with the axis that is paired with itself
unfoldable pair_check : ℕ → ℕ × ℕ → Check
pair_check rank p =
    refuse_if (leb rank (max p.0 p.1)) 5 (max p.0 p.1 ∷ rank ∷ [])
    >> refuse_if (eqb p.0 p.1) 5 (p.0 ∷ rank ∷ [])

-- the pairs are checked in turn
pairs-in-turn : (rank : ℕ) (pairs : List (ℕ × ℕ)) → pair_fault rank pairs ≡ in_turn (λ i. pair_check rank (pair_at pairs i)) (length pairs)
unfolding pair_fault in_turn pair_check
pairs-in-turn rank [] = refl
pairs-in-turn rank (p ∷ rest) =
    ap (λ (o : Check). refuse_if (leb rank (max p.0 p.1)) 5 (max p.0 p.1 ∷ rank ∷ []) >> refuse_if (eqb p.0 p.1) 5 (p.0 ∷ rank ∷ []) >> o) (pairs-in-turn rank rest)
    ∙ sym (then-assoc _ _ _)

-- how a pair is refused
data BadPair (rank : ℕ) (p : ℕ × ℕ) : ℕ → List ℕ → Type 0 where
  outside : rank ≤ max p.0 p.1 → BadPair rank p 5 (max p.0 p.1 ∷ rank ∷ [])
  same_axis : p.0 < rank → p.0 ≡ p.1 → BadPair rank p 5 (p.0 ∷ rank ∷ [])

-- a pair answers 5 exactly if it is bad
pair-answers : (rank : ℕ) (pairs : List (ℕ × ℕ)) (i : ℕ) → Answers (pair_check rank (pair_at pairs i)) (GoodPair rank pairs i) (BadPair rank (pair_at pairs i))
unfolding pair_check
pair-answers rank pairs i = restated
    (then-answers _ _ (test-answers (leb rank top) 5 (top ∷ rank ∷ []) (leb-false rank top, lt-leb rank top)) (λ h. test-answers (eqb a b) 5 (a ∷ rank ∷ []) (eqb-false a b, ne_eqb a b)))
    (λ w. record { in_rank = w.0; different = w.1 }) (λ g. (g.in_rank, g.different)) (λ n vs r. to r) (λ n vs r. from r)
  where
    a : ℕ
    a = (pair_at pairs i).0

    b : ℕ
    b = (pair_at pairs i).1

    top : ℕ
    top = max (pair_at pairs i).0 (pair_at pairs i).1

    twice : Dec (a ≡ b) → ¬ (a ≢ b) → a ≡ b
    twice (yes e) f = e
    twice (no n) f = absurd (f n)

    to : {n : ℕ} {vs : List ℕ} → InOrder (top < rank) (Only 5 (top ∷ rank ∷ []) (top < rank)) (Only 5 (a ∷ rank ∷ []) (a ≢ b)) n vs → BadPair rank (pair_at pairs i) n vs
    to (sooner (only f)) = outside (omega arith)
    to (later h (only f)) = same_axis (omega arith) (twice (ℕ_discrete a b) f)

    from : {n : ℕ} {vs : List ℕ} → BadPair rank (pair_at pairs i) n vs → InOrder (top < rank) (Only 5 (top ∷ rank ∷ []) (top < rank)) (Only 5 (a ∷ rank ∷ []) (a ≢ b)) n vs
    from (outside h) = sooner (only (λ k. omega arith))
    from (same_axis h e) = later (omega arith) (only (λ f. f e))

-- ---- the sums of strides

-- 3 exactly if a partial sum, from a sum in range on, is out of range
stride-answers : (sum : ℤ) (axes : List Axis) → fits sum ≡ true
    → Answers (stride_fault sum axes) ((n : ℕ) → fits (stride_sum sum (take n axes)) ≡ true) (Only 3 [] ((n : ℕ) → fits (stride_sum sum (take n axes)) ≡ true))
unfolding stride_fault stride_sum refuse_if
stride-answers sum [] h = test-answers false 3 [] (λ e. none, λ f. refl)
  where
    none : (n : ℕ) → fits (stride_sum sum (take n [])) ≡ true
    none zero = h
    none (suc n) = h
stride-answers sum (a ∷ rest) h = only-restated
    (then-only _ _ 3 [] (test-answers (not (fits (sum +ℤ a.stride))) 3 [] (not-false (fits (sum +ℤ a.stride)), λ e. rw e)) (λ e. stride-answers (sum +ℤ a.stride) rest e))
    (λ w. all w.0 w.1) (λ f. (f 1, λ n. f (suc n)))
  where
    all : fits (sum +ℤ a.stride) ≡ true → ((n : ℕ) → fits (stride_sum (sum +ℤ a.stride) (take n rest)) ≡ true) → (n : ℕ) → fits (stride_sum sum (take n (a ∷ rest))) ≡ true
    all e f zero = h
    all e f (suc n) = f n

-- the classes are checked in turn
sums-in-turn : (l : LayoutModel) (pairs : List (ℕ × ℕ)) (roots : List ℕ) → sum_faults l pairs roots ≡ in_turn (λ p. stride_fault (pos 0) (members l pairs (get_or roots p 0))) (length roots)
unfolding sum_faults in_turn
sums-in-turn l pairs [] = refl
sums-in-turn l pairs (a ∷ rest) = ap (λ (o : Check). stride_fault (pos 0) (members l pairs a) >> o) (sums-in-turn l pairs rest)

-- ---- the call

module _ (l : LayoutModel) (pairs : List (ℕ × ℕ)) where
  abbrev GoodPairs : Type 0
  GoodPairs = (i : ℕ) → i < length pairs → GoodPair (rank l) pairs i

  abbrev FirstBad : ℕ → List ℕ → Type 0
  FirstBad = FirstFault (length pairs) (GoodPair (rank l) pairs) (λ i. BadPair (rank l) (pair_at pairs i))

  abbrev SumsOf : ℕ → Type 0
  SumsOf p = SumsFit l pairs (get_or (kept pairs (rank l)) p 0)

  abbrev AllSums : Type 0
  AllSums = (p : ℕ) → p < length (kept pairs (rank l)) → SumsOf p

  abbrev FirstOut : ℕ → List ℕ → Type 0
  FirstOut = FirstFault (length (kept pairs (rank l))) SumsOf (λ p. Only 3 [] (SumsOf p))

  abbrev new : LayoutModel
  new = with_axes l (diagonal_axes l pairs)

  pairs-answers : Answers (pair_fault (rank l) pairs) GoodPairs FirstBad
  pairs-answers = rw (pairs-in-turn (rank l) pairs) (turn-answers (λ i. pair_check (rank l) (pair_at pairs i)) (length pairs) (λ i h. pair-answers (rank l) pairs i))

  pub sums-answers : Answers (sum_faults l pairs (kept pairs (rank l))) AllSums FirstOut
  sums-answers = rw (sums-in-turn l pairs (kept pairs (rank l)))
      (turn-answers (λ p. stride_fault (pos 0) (members l pairs (get_or (kept pairs (rank l)) p 0))) (length (kept pairs (rank l))) (λ p h. stride-answers (pos 0) (members l pairs (get_or (kept pairs (rank l)) p 0)) refl))

  -- some sum out of range means a first one
  first_out : (p : ℕ) → p < length (kept pairs (rank l)) → ¬ (SumsOf p) → FirstOut 3 []
  first_out p h f = three (some-refusal _ sums-answers (λ g. f (g p h)))
    where
      at : {n : ℕ} {vs : List ℕ} → FirstOut n vs → FirstOut 3 []
      at (first i h g (only f)) = first i h g (only f)

      three : (n : ℕ) × (vs : List ℕ) × FirstOut n vs → FirstOut 3 []
      three w = at w.2

  abbrev Refused : ℕ → List ℕ → Type 0
  Refused = InOrder (IsAccepted l × (0 ≤ 16)) (HandedRefused l 0) (InOrder GoodPairs FirstBad (InOrder AllSums FirstOut (BoundsRefused new)))

  by-rule : {n : ℕ} {vs : List ℕ} → Refused n vs → DiagonalRefused l pairs n vs
  by-rule (sooner h) = DiagonalRefused.handed_in h
  by-rule (later w (sooner (first i h g b))) = bad i _ b h g
    where
      bad : (i : ℕ) (vs : List ℕ) → {n : ℕ} → BadPair (rank l) (pair_at pairs i) n vs → i < length pairs → ((j : ℕ) → j < i → GoodPair (rank l) pairs j) → DiagonalRefused l pairs n vs
      bad i vs (outside o) h g = DiagonalRefused.outside w.0 i h g o
      bad i vs (same_axis o e) h g = DiagonalRefused.same_axis w.0 i h g o e
  by-rule (later w (later g (sooner (first p h s (only f))))) = DiagonalRefused.sum_out w.0 g p h f
  by-rule (later w (later g (later s (out_of_bounds e)))) = DiagonalRefused.not_checked w.0 g s e

  of-rule : {n : ℕ} {vs : List ℕ} → DiagonalRefused l pairs n vs → Refused n vs
  of-rule (DiagonalRefused.handed_in h) = sooner h
  of-rule (DiagonalRefused.outside a i h g o) = later (a, omega arith) (sooner (first i h g (outside o)))
  of-rule (DiagonalRefused.same_axis a i h g o e) = later (a, omega arith) (sooner (first i h g (same_axis o e)))
  of-rule (DiagonalRefused.sum_out a g p h f) = later (a, omega arith) (later g (sooner (first_out p h f)))
  of-rule (DiagonalRefused.not_checked a g s e) = later (a, omega arith) (later g (later s (out_of_bounds e)))

  pub diagonal-answers : Answers (diagonal_view l pairs).answer (Fuses l pairs) (DiagonalRefused l pairs)
  unfolding diagonal_view
  diagonal-answers = of-answer l new (restated
      (then-answers _ _ (handed-answers l 0) (λ w. then-answers _ _ pairs-answers (λ g. then-answers _ _ sums-answers (λ s. bounds-answers new))))
      (λ w. record { accepted = w.0.0; good = w.1.0; sums = w.1.1.0; checked = w.1.1.1 })
      (λ f. ((f.accepted, omega arith), (f.good, (f.sums, f.checked))))
      (λ n vs r. by-rule r) (λ n vs r. of-rule r))
