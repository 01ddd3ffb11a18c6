-- permute passes and is refused exactly as its rules say: the first entry that is out of the rank or named before gives 5.
use Rattle.std.specs.List.{list_any}
use mathlib.Core.Bool.{false}
use mathlib.Core.List.{List, [], ◌∷◌, ◌++◌, map, append-nil, append_assoc}
use mathlib.Core.Logic.{◌≢◌, ◌↔◌}
use mathlib.Core.Path.{◌≡◌, refl, sym, ap, ◌∙◌}
use Prim.Native.Nat.{ℕ, zero, suc, ◌<◌, ◌≤◌}
use native.Mathlib.Omega.{arith}
use lib.Dec.{eqb, leb}
use lib.ListN.{length, get_or, take}
use borrow.Author.Tests.{leb-false, lt-leb, eqb-false, ne_eqb}
use Rattle.specification.specs.Outcome.{Check, refuse_if, ◌>>◌}
use Rattle.specification.specs.Layout.{LayoutModel, rank, IsAccepted, HandedRefused}
use Rattle.specification.specs.Views.{with_axes, axis_at, order_fault, permute}
use Rattle.specification.specs.ViewRules.{GoodEntry, Permutes, PermuteRefused}
use Rattle.specification.proofs.ReachLaws.{or-false}
use Rattle.specification.proofs.ReachClaimed.{handed-answers}
use Rattle.specification.proofs.AnswerRules.{Answers, Only, only, InOrder, sooner, later, FirstFault, first, restated, test-answers, then-answers, only-restated, equal-tested, then-only, then-assoc, in_turn, in-turn-ext, turn-answers, of-answer}

-- an entry is not among the first i exactly if it differs from each
not-among : (a : ℕ) (list : List ℕ) (i : ℕ) → i ≤ length list → (list_any (eqb a) (take i list) ≡ false) ↔ ((j : ℕ) → j < i → get_or list j 0 ≢ a)
not-among a list zero h = (λ e j k. absurd (omega arith), λ f. refl)
not-among a [] (suc i) h = absurd (omega arith)
not-among a (b ∷ rest) (suc i) h =
    let more = not-among a rest i (omega arith) in
    (λ e. let w = or-false (eqb a b) (list_any (eqb a) (take i rest)) e in differs w.0 (more.0 w.1), λ f. rw (ne_eqb a b (λ e. f 0 (omega arith) (sym e)), more.1 (λ j k. f (suc j) (omega arith))))
  where
    differs : eqb a b ≡ false → ((j : ℕ) → j < i → get_or rest j 0 ≢ a) → (j : ℕ) → j < suc i → get_or (b ∷ rest) j 0 ≢ a
    differs e f zero k = λ q. eqb-false a b e (sym q)
    differs e f (suc j) k = f j (omega arith)

-- entry i after the entries `before`
unfoldable entry_check : ℕ → List ℕ → List ℕ → ℕ → Check
entry_check rank before order i =
    refuse_if (leb rank (get_or order i 0)) 5 (get_or order i 0 ∷ rank ∷ [])
    >> refuse_if (list_any (eqb (get_or order i 0)) (before ++ take i order)) 5 (get_or order i 0 ∷ rank ∷ [])

-- an order is checked entry by entry
order-in-turn : (rank : ℕ) (before order : List ℕ) → order_fault rank before order ≡ in_turn (entry_check rank before order) (length order)
unfolding order_fault in_turn entry_check
order-in-turn rank before [] = refl
order-in-turn rank before (a ∷ rest) =
    ap (λ (o : Check). refuse_if (leb rank a) 5 (a ∷ rank ∷ []) >> refuse_if (list_any (eqb a) before) 5 (a ∷ rank ∷ []) >> o) (order-in-turn rank (before ++ (a ∷ [])) rest ∙ in-turn-ext _ _ (length rest) passed)
    ∙ sym (then-assoc _ _ _)
    ∙ ap (λ (b : List ℕ). (refuse_if (leb rank a) 5 (a ∷ rank ∷ []) >> refuse_if (list_any (eqb a) b) 5 (a ∷ rank ∷ [])) >> in_turn (λ i. entry_check rank before (a ∷ rest) (suc i)) (length rest)) (sym (append-nil before))
  where
    passed : (i : ℕ) → entry_check rank (before ++ (a ∷ [])) rest i ≡ entry_check rank before (a ∷ rest) (suc i)
    passed i = ap (λ (b : List ℕ). refuse_if (leb rank (get_or rest i 0)) 5 (get_or rest i 0 ∷ rank ∷ []) >> refuse_if (list_any (eqb (get_or rest i 0)) b) 5 (get_or rest i 0 ∷ rank ∷ [])) (append_assoc before (a ∷ []) (take i rest))

-- an entry answers 5 exactly if it is not good
entry-answers : (rank : ℕ) (order : List ℕ) (i : ℕ) → i < length order → Answers (entry_check rank [] order i) (GoodEntry rank order i) (Only 5 (get_or order i 0 ∷ rank ∷ []) (GoodEntry rank order i))
unfolding entry_check
entry-answers rank order i h = only-restated
    (then-only _ _ 5 (get_or order i 0 ∷ rank ∷ [])
    (test-answers (leb rank (get_or order i 0)) 5 (get_or order i 0 ∷ rank ∷ []) (leb-false rank (get_or order i 0), lt-leb rank (get_or order i 0)))
    (λ p. test-answers (list_any (eqb (get_or order i 0)) (take i order)) 5 (get_or order i 0 ∷ rank ∷ []) (not-among (get_or order i 0) order i (omega arith))))
    (λ w. record { in_rank = w.0; new = w.1 }) (λ g. (g.in_rank, g.new))

-- the order answers 5 at the first entry that is not good
abbrev AllGood : ℕ → List ℕ → Type 0
AllGood rank order = (i : ℕ) → i < length order → GoodEntry rank order i

abbrev FirstBad : ℕ → List ℕ → ℕ → List ℕ → Type 0
FirstBad rank order = FirstFault (length order) (GoodEntry rank order) (λ i. Only 5 (get_or order i 0 ∷ rank ∷ []) (GoodEntry rank order i))

order-answers : (rank : ℕ) (order : List ℕ) → Answers (order_fault rank [] order) (AllGood rank order) (FirstBad rank order)
order-answers rank order = rw (order-in-turn rank [] order) (turn-answers (entry_check rank [] order) (length order) (entry-answers rank order))

-- ---- the call

module _ (l : LayoutModel) (order : List ℕ) where
  abbrev AsMany : Type 0
  AsMany = length order ≡ rank l

  abbrev Refused : ℕ → List ℕ → Type 0
  Refused = InOrder (IsAccepted l × (length order ≤ 16)) (HandedRefused l (length order)) (InOrder AsMany (Only 4 (length order ∷ rank l ∷ []) AsMany) (FirstBad (rank l) order))

  by-rule : {n : ℕ} {vs : List ℕ} → Refused n vs → PermuteRefused l order n vs
  by-rule (sooner h) = PermuteRefused.handed_in h
  by-rule (later w (sooner (only f))) = PermuteRefused.wrong_length w.0 w.1 f
  by-rule (later w (later e (first i h g o))) = bad i _ o h g
    where
      bad : (i : ℕ) (vs : List ℕ) → {n : ℕ} → Only 5 (get_or order i 0 ∷ rank l ∷ []) (GoodEntry (rank l) order i) n vs → i < length order → ((j : ℕ) → j < i → GoodEntry (rank l) order j) → PermuteRefused l order n vs
      bad i vs (only f) h g = PermuteRefused.bad_entry w.0 e i h g f

  of-rule : {n : ℕ} {vs : List ℕ} → PermuteRefused l order n vs → Refused n vs
  of-rule (PermuteRefused.handed_in h) = sooner h
  of-rule (PermuteRefused.wrong_length a h f) = later (a, h) (sooner (only f))
  of-rule (PermuteRefused.bad_entry a e i h g f) = later (a, omega (arith, a.few)) (later e (first i h g (only f)))

  pub permute-answers : Answers (permute l order).answer (Permutes l order) (PermuteRefused l order)
  unfolding permute
  permute-answers = of-answer l (with_axes l (map (axis_at l.axes) order)) (restated
      (then-answers _ _ (handed-answers l (length order)) (λ w. then-answers _ _ (test-answers _ 4 (length order ∷ rank l ∷ []) (equal-tested (length order) (rank l))) (λ e. order-answers (rank l) order)))
      (λ w. record { accepted = w.0.0; as_many = w.1.0; good = w.1.1 })
      (λ p. ((p.accepted, omega (arith, p.accepted.few, p.as_many)), (p.as_many, p.good)))
      (λ n vs r. by-rule r) (λ n vs r. of-rule r))
