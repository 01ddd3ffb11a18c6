-- Indexed offset: its rules are checks of one axis after another, so it passes if each index is good and is refused at the first that is not.
-- In an accepted layout that is not empty the running sum stays from 0 to 2^63 - 1 whatever the indices to come are (`Room`), so no product and no sum leaves 64 bits.
use mathlib.Core.Path.{◌≡◌, refl, sym, ap, ◌∙◌}
use mathlib.Core.Bool.{Bool, true, false, not, ◌||◌}
use mathlib.Core.List.{List, [], ◌∷◌}
use mathlib.Core.Logic.{◌↔◌}
use Prim.Native.Nat.{ℕ, zero, suc, ◌+◌, ◌-◌, ◌<◌, ◌≤◌}
use native.Mathlib.Nat.{add-zero, mul-le-mul_right}
use native.Mathlib.Omega.{arith}
use borrow.Author.Tests.{leb-false, lt-leb, eqb-true}
use lib.Dec.{eqb, ltb, leb}
use lib.IntN.{ℤ, pos, ◌+ℤ◌, +ℤ_assoc, +ℤ_idr}
use lib.ListN.{length, take, get_or}
use mir.Syntax.{w64}
use mir.Val.{SFits}
use Rattle.integer.specs.Multiple.{◌·◌}
use Rattle.integer.specs.Parts.{positive_part, negative_part}
use Rattle.integer.specs.Range.{fits, most_signed}
use Rattle.integer.proofs.MultipleLaws.{positive_part-·, negative_part-·}
use Rattle.specification.specs.Axis.{Axis, offset_sum, is_empty, upward, downward}
use Rattle.specification.specs.Outcome.{Outcome, Check, done, refused, pass, refuse_if, ◌>>◌}
use Rattle.specification.specs.Layout.{LayoutModel, rank, IsAccepted, handed, HandedRefused}
use Rattle.specification.specs.Views.{axis_at}
use Rattle.specification.specs.Beside.{sum_indexed, indexed_offset}
use Rattle.specification.specs.BesideClaims.{sum_before, IsInRange, GoodIndex, OffsetRefused, OffsetClaims}
use Rattle.specification.proofs.AnswerRules.{Answers, Only, only, InOrder, sooner, later, FirstFault, first, restated, test-answers, equal-tested, then-answers, then-assoc, done-after, in_turn, in-turn-ext, turn-answers}
use Rattle.specification.proofs.OutcomeLaws.{refuse-yes}
use Rattle.specification.proofs.ReachClaimed.{handed-answers}
use Rattle.specification.proofs.ReachLaws.{accepted-within}
use Rattle.std.proofs.lemmas.Int.{ints}

-- ---- one axis after another

-- an index is 2^63 or more, or its product or the sum past it leaves 64 bits
abbrev out_of_sum : ℕ → ℤ → ℤ → Bool
out_of_sum x product sum = ltb most_signed x || not (fits product) || not (fits sum)

-- the check of axis i, where the axes are numbered from `start` on and `sum` is the sum before them
unfoldable index_check : ℕ → ℤ → List Axis → List ℕ → ℕ → Check
index_check start sum axes index i =
    refuse_if (leb (axis_at axes i).extent (get_or index i 0)) 7 ((i + start) ∷ [])
    >> refuse_if (out_of_sum (get_or index i 0) (get_or index i 0 · (axis_at axes i).stride) (sum +ℤ offset_sum (take (suc i) axes) index)) 3 []

nothing-before : {B : Type 0} (o : Outcome B) → o ≡ pass >> o
unfolding ◌>>◌
nothing-before o = refl

four : {B : Type 0} (a b c : Check) (o : Outcome B) → a >> b >> c >> o ≡ ((a >> b) >> c) >> o
four a b c o = sym (then-assoc a b (c >> o)) ∙ sym (then-assoc (a >> b) c o)

sum-in-turn : (start : ℕ) (sum : ℤ) (axes : List Axis) (index : List ℕ) → length index ≡ length axes
    → sum_indexed start sum axes index ≡ in_turn (index_check start sum axes index) (length axes) >> done (sum +ℤ offset_sum axes index)
unfolding sum_indexed in_turn index_check offset_sum
sum-in-turn start sum [] index n = ap done (sym (+ℤ_idr sum)) ∙ nothing-before (done (sum +ℤ pos 0))
sum-in-turn start sum (a ∷ rest) [] n = absurd (omega arith)
sum-in-turn start sum (a ∷ rest) (x ∷ index) n =
    let e : 0 + start ≡ start = omega arith in
    rw (sum-in-turn (suc start) (sum +ℤ x · a.stride) rest index (omega arith), in-turn-ext _ _ (length rest) behind, +ℤ_idr (x · a.stride), +ℤ_assoc sum (x · a.stride) (offset_sum rest index), e) (four _ _ _ _)
  where
    behind : (i : ℕ) → index_check (suc start) (sum +ℤ x · a.stride) rest index i ≡ index_check start sum (a ∷ rest) (x ∷ index) (suc i)
    behind i = let e : i + suc start ≡ suc i + start = omega arith in rw (+ℤ_assoc sum (x · a.stride) (offset_sum (take (suc i) rest) index), e)

-- ---- what the check of an axis says

module _ (l : LayoutModel) (index : List ℕ) (i : ℕ) where
  abbrev Below : Type 0
  Below = get_or index i 0 < (axis_at l.axes i).extent

  range-tested : (out_of_sum (get_or index i 0) (get_or index i 0 · (axis_at l.axes i).stride) (sum_before l index (suc i)) ≡ false) ↔ IsInRange l index i
  range-tested = grind (arith, ints)

  abbrev Bad : ℕ → List ℕ → Type 0
  Bad = InOrder Below (Only 7 (i ∷ []) Below) (Only 3 [] (IsInRange l index i))

  check-answers : Answers (index_check 0 l.offset l.axes index i) (GoodIndex l index i) Bad
  unfolding index_check
  check-answers = rw (add-zero i) (restated
      (then-answers _ _ (test-answers (leb (axis_at l.axes i).extent (get_or index i 0)) 7 (i ∷ []) (leb-false (axis_at l.axes i).extent (get_or index i 0), lt-leb (axis_at l.axes i).extent (get_or index i 0)))
      (λ b. test-answers _ 3 [] range-tested))
      (λ w. record { below = w.0; in_range = w.1 }) (λ g. (g.below, g.in_range)) (λ n vs r. r) (λ n vs r. r))

-- ---- the call

module _ (l : LayoutModel) (index : List ℕ) where
  abbrev AsMany : Type 0
  AsMany = length index ≡ rank l

  abbrev AllGood : Type 0
  AllGood = (i : ℕ) → i < rank l → GoodIndex l index i

  abbrev FirstBad : ℕ → List ℕ → Type 0
  FirstBad = FirstFault (rank l) (GoodIndex l index) (Bad l index)

  abbrev checks : Check
  checks = handed l (length index) >> refuse_if (not (eqb (length index) (rank l))) 4 (length index ∷ rank l ∷ []) >> in_turn (index_check 0 l.offset l.axes index) (rank l)

  -- the call is these checks, then the sum
  offset-checked : indexed_offset l index ≡ checks >> done (l.offset +ℤ offset_sum l.axes index)
  unfolding indexed_offset
  offset-checked = ap (λ (o : Outcome ℤ). handed l (length index) >> o) (go (eqb (length index) (rank l)) (eqb-true (length index) (rank l))) ∙ sym (then-assoc (handed l (length index)) _ _)
    where
      go : (t : Bool) → (t ≡ true → AsMany) → refuse_if (not t) 4 (length index ∷ rank l ∷ []) >> sum_indexed 0 l.offset l.axes index
          ≡ (refuse_if (not t) 4 (length index ∷ rank l ∷ []) >> in_turn (index_check 0 l.offset l.axes index) (rank l)) >> done (l.offset +ℤ offset_sum l.axes index)
      go true f = ap (λ (o : Outcome ℤ). refuse_if (not true) 4 (length index ∷ rank l ∷ []) >> o) (sum-in-turn 0 l.offset l.axes index (f refl)) ∙ sym (then-assoc _ _ _)
      go false f = refuse-yes 4 (length index ∷ rank l ∷ []) _ refl ∙ sym (refuse-yes 4 (length index ∷ rank l ∷ []) _ refl) ∙ sym (then-assoc _ _ _)

  abbrev Refused : ℕ → List ℕ → Type 0
  Refused = InOrder (IsAccepted l × (length index ≤ 16)) (HandedRefused l (length index)) (InOrder AsMany (Only 4 (length index ∷ rank l ∷ []) AsMany) FirstBad)

  by-rule : {n : ℕ} {vs : List ℕ} → Refused n vs → OffsetRefused l index n vs
  by-rule (sooner h) = OffsetRefused.handed_in h
  by-rule (later w (sooner (only f))) = OffsetRefused.wrong_length w.0 w.1 f
  by-rule (later w (later e (first i h g (sooner (only f))))) = OffsetRefused.not_below w.0 e i h g (omega arith)
  by-rule (later w (later e (first i h g (later b (only f))))) = OffsetRefused.out_of_range w.0 e i h g b f

  of-rule : {n : ℕ} {vs : List ℕ} → OffsetRefused l index n vs → Refused n vs
  of-rule (OffsetRefused.handed_in h) = sooner h
  of-rule (OffsetRefused.wrong_length a h f) = later (a, h) (sooner (only f))
  of-rule (OffsetRefused.not_below a e i h g b) = later (a, omega (arith, a.few)) (later e (first i h g (sooner (only (λ k. omega arith)))))
  of-rule (OffsetRefused.out_of_range a e i h g b f) = later (a, omega (arith, a.few)) (later e (first i h g (later b (only f))))

  offset-answers : Answers checks ((IsAccepted l × (length index ≤ 16)) × (AsMany × AllGood)) (OffsetRefused l index)
  offset-answers = restated
      (then-answers _ _ (handed-answers l (length index)) (λ w. then-answers _ _ (test-answers _ 4 (length index ∷ rank l ∷ []) (equal-tested (length index) (rank l)))
      (λ e. turn-answers (index_check 0 l.offset l.axes index) (rank l) (λ i h. check-answers l index i))))
      (λ w. w) (λ w. w) (λ n vs r. by-rule r) (λ n vs r. of-rule r)

  refuses : (number : ℕ) (values : List ℕ) → (indexed_offset l index ≡ refused number values) ↔ OffsetRefused l index number values
  refuses number values =
      let d = done-after checks (l.offset +ℤ offset_sum l.axes index) number values in
      let a = offset-answers.refuses number values in
      (λ e. a.0 (d.0 (sym offset-checked ∙ e)), λ r. offset-checked ∙ d.1 (a.1 r))

  offset_is : IsAccepted l → AsMany → AllGood → indexed_offset l index ≡ done (l.offset +ℤ offset_sum l.axes index)
  offset_is a n g =
      let e : checks ≡ pass = offset-answers.passes.1 ((a, omega (arith, a.few)), (n, g)) in
      offset-checked ∙ ap (λ (c : Check). c >> done (l.offset +ℤ offset_sum l.axes index)) e ∙ sym (nothing-before _)

-- ---- room for what is to come

-- with these axes to come, the sum stays from 0 to 2^63 - 1
record Room (sum : ℤ) (axes : List Axis) : Type 0 where
  low : negative_part sum + downward axes ≤ positive_part sum
  high : positive_part sum + upward axes ≤ most_signed + negative_part sum

module _ (sum : ℤ) (a : Axis) (rest : List Axis) (x : ℕ) (r : Room sum (a ∷ rest)) (h : x < a.extent) where
  -- a product is no further from 0 than the span of its axis: above 0
  product-up : positive_part (x · a.stride) ≤ positive_part ((a.extent - 1) · a.stride)
  product-up = let k : x ≤ a.extent - 1 = omega arith in simp (positive_part-·) (mul-le-mul_right (positive_part a.stride) k)

  -- below 0
  product-down : negative_part (x · a.stride) ≤ negative_part ((a.extent - 1) · a.stride)
  product-down = let k : x ≤ a.extent - 1 = omega arith in simp (negative_part-·) (mul-le-mul_right (negative_part a.stride) k)

  -- the next sum has room for the axes behind
  room_next : Room (sum +ℤ x · a.stride) rest
  unfolding upward downward
  room_next = record {
    low = omega (arith, ints, r.low, product-down);
    high = omega (arith, ints, r.high, product-up);
  }

  -- so the product fits 64 bits
  product_fits : SFits w64 (x · a.stride)
  unfolding upward downward
  product_fits = omega (arith, ints, r.low, r.high, product-up, product-down)

  -- and so does the next sum
  next_fits : SFits w64 (sum +ℤ x · a.stride)
  next_fits = omega (arith, ints, room_next.low, room_next.high)

-- indices below their extents up to i: product and sum of i fit
fits-at : (sum : ℤ) (axes : List Axis) (index : List ℕ) (i : ℕ) → Room sum axes → length index ≡ length axes → i < length axes → ((j : ℕ) → j ≤ i → get_or index j 0 < (axis_at axes j).extent)
    → SFits w64 (get_or index i 0 · (axis_at axes i).stride) × SFits w64 (sum +ℤ offset_sum (take (suc i) axes) index)
unfolding offset_sum
fits-at sum [] index i r n h f = absurd (omega arith)
fits-at sum (a ∷ rest) [] i r n h f = absurd (omega arith)
fits-at sum (a ∷ rest) (x ∷ index) zero r n h f =
    let b : x < a.extent = f 0 (omega arith) in
    (product_fits sum a rest x r b, rw (+ℤ_idr (x · a.stride)) (next_fits sum a rest x r b))
fits-at sum (a ∷ rest) (x ∷ index) (suc i) r n h f =
    let w = fits-at (sum +ℤ x · a.stride) rest index i (room_next sum a rest x r (f 0 (omega arith))) (omega arith) (omega arith) (λ j k. f (suc j) (omega arith)) in
    (w.0, rw (← +ℤ_assoc sum (x · a.stride) (offset_sum (take (suc i) rest) index)) w.1)

-- the offsets of an accepted layout leave room for all its axes
room : (l : LayoutModel) → IsAccepted l → is_empty l.axes ≡ false → Room l.offset l.axes
room l accepted full =
    let w = accepted-within l full accepted in
    record {
      low = omega (arith, ints, w.w_low);
      high = omega (arith, ints, w.w_most);
    }

-- all that is claimed of the indexed offset
pub offset_claims : OffsetClaims
offset_claims = record {
  refuses = refuses;
  offset_is = offset_is;
  in_full_layout = λ l index i a e n h f x. let w = fits-at l.offset l.axes index i (room l a e) n h f in record { index_fits = x; product_fits = w.0; sum_fits = w.1 };
}
