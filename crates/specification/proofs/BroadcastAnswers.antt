-- broadcast passes and is refused exactly as its rules say: the first axis whose extent is neither its target nor 1 gives 6.
use mathlib.Core.Bool.{false, not, ◌||◌}
use mathlib.Core.List.{List, [], ◌∷◌}
use mathlib.Core.Logic.{◌⊎◌, ◌↔◌}
use mathlib.Core.Path.{◌≡◌, refl, sym, ap, ◌∙◌}
use Prim.Native.Nat.{ℕ, suc, ◌+◌, ◌<◌, ◌≤◌}
use native.Mathlib.Nat.{add-zero, zero-add}
use native.Mathlib.Omega.{arith}
use lib.Dec.{eqb}
use lib.ListN.{length, get_or}
use Rattle.specification.specs.Axis.{Axis}
use Rattle.specification.specs.Outcome.{Check, refuse_if, ◌>>◌}
use Rattle.specification.specs.Layout.{LayoutModel, rank, IsAccepted, HandedRefused}
use Rattle.specification.specs.Views.{with_axes, axis_at, target_fault, spread, broadcast}
use Rattle.specification.specs.ViewRules.{GoodExtent, Broadcasts, BroadcastRefused}
use Rattle.specification.proofs.ReachClaimed.{handed-answers}
use Rattle.specification.proofs.AnswerRules.{Answers, Only, only, InOrder, sooner, later, FirstFault, first, restated, equal-tested, test-answers, of-answer, then-answers, in_turn, in-turn-ext, turn-answers}
use Rattle.std.proofs.lemmas.Int.{ints}

-- an extent is its target or 1
extent-tested : (extent target : ℕ) → (not (eqb extent target || eqb extent 1) ≡ false) ↔ ((extent ≡ target) ⊎ (extent ≡ 1))
extent-tested extent target = grind (arith, ints)

-- the check of one axis, which answers with the number k
unfoldable extent_check : ℕ → ℕ → ℕ → Check
extent_check k extent target = refuse_if (not (eqb extent target || eqb extent 1)) 6 (k ∷ [])

-- the targets are checked axis by axis
targets-in-turn : (k : ℕ) (axes : List Axis) (targets : List ℕ) → length targets ≡ length axes
    → target_fault k axes targets ≡ in_turn (λ i. extent_check (k + i) (axis_at axes i).extent (get_or targets i 0)) (length axes)
unfolding target_fault in_turn extent_check
targets-in-turn k [] targets h = refl
targets-in-turn k (a ∷ rest) [] h = absurd (omega arith)
targets-in-turn k (a ∷ rest) (t ∷ targets) h =
    ap (λ (o : Check). extent_check k a.extent t >> o) (targets-in-turn (suc k) rest targets (omega arith) ∙ in-turn-ext _ _ (length rest) next)
    ∙ ap (λ (n : ℕ). extent_check n a.extent t >> in_turn (λ i. extent_check (k + suc i) (axis_at rest i).extent (get_or targets i 0)) (length rest)) (sym (add-zero k))
  where
    next : (i : ℕ) → extent_check (suc k + i) (axis_at rest i).extent (get_or targets i 0) ≡ extent_check (k + suc i) (axis_at rest i).extent (get_or targets i 0)
    next i = ap (λ (n : ℕ). extent_check n (axis_at rest i).extent (get_or targets i 0)) (omega arith)

-- ---- the call

module _ (l : LayoutModel) (targets : List ℕ) where
  abbrev AsMany : Type 0
  AsMany = length targets ≡ rank l

  abbrev AllGood : Type 0
  AllGood = (i : ℕ) → i < rank l → GoodExtent l targets i

  abbrev FirstBad : ℕ → List ℕ → Type 0
  FirstBad = FirstFault (rank l) (GoodExtent l targets) (λ i. Only 6 (i ∷ []) (GoodExtent l targets i))

  abbrev Refused : ℕ → List ℕ → Type 0
  Refused = InOrder (IsAccepted l × (length targets ≤ 16)) (HandedRefused l (length targets)) (InOrder AsMany (Only 4 (rank l ∷ length targets ∷ []) AsMany) FirstBad)

  target-answers : AsMany → Answers (target_fault 0 l.axes targets) AllGood FirstBad
  unfolding extent_check
  target-answers e = rw (targets-in-turn 0 l.axes targets e ∙ in-turn-ext _ _ (rank l) from_zero)
      (turn-answers (λ i. extent_check i (axis_at l.axes i).extent (get_or targets i 0)) (rank l) (λ i h. test-answers _ 6 (i ∷ []) (extent-tested (axis_at l.axes i).extent (get_or targets i 0))))
    where
      from_zero : (i : ℕ) → extent_check (0 + i) (axis_at l.axes i).extent (get_or targets i 0) ≡ extent_check i (axis_at l.axes i).extent (get_or targets i 0)
      from_zero i = ap (λ (n : ℕ). extent_check n (axis_at l.axes i).extent (get_or targets i 0)) (zero-add i)

  by-rule : {n : ℕ} {vs : List ℕ} → Refused n vs → BroadcastRefused l targets n vs
  by-rule (sooner h) = BroadcastRefused.handed_in h
  by-rule (later w (sooner (only f))) = BroadcastRefused.wrong_length w.0 w.1 f
  by-rule (later w (later e (first i h g (only f)))) = BroadcastRefused.bad_extent w.0 e i h g f

  of-rule : {n : ℕ} {vs : List ℕ} → BroadcastRefused l targets n vs → Refused n vs
  of-rule (BroadcastRefused.handed_in h) = sooner h
  of-rule (BroadcastRefused.wrong_length a h f) = later (a, h) (sooner (only f))
  of-rule (BroadcastRefused.bad_extent a e i h g f) = later (a, omega (arith, a.few)) (later e (first i h g (only f)))

  pub broadcast-answers : Answers (broadcast l targets).answer (Broadcasts l targets) (BroadcastRefused l targets)
  unfolding broadcast
  broadcast-answers = of-answer l (with_axes l (spread l.axes targets)) (restated
      (then-answers _ _ (handed-answers l (length targets)) (λ w. then-answers _ _ (test-answers _ 4 (rank l ∷ length targets ∷ []) (equal-tested (length targets) (rank l))) target-answers))
      (λ w. record { accepted = w.0.0; as_many = w.1.0; good = w.1.1 })
      (λ p. ((p.accepted, omega (arith, p.accepted.few, p.as_many)), (p.as_many, p.good)))
      (λ n vs r. by-rule r) (λ n vs r. of-rule r))
