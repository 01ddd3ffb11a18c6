-- The claims on pictures and on when a layout is drawn.
use Rattle.std.proofs.Common.{◌≡◌, ◌≢◌, ℕ, zero, suc, ◌+◌, ◌<◌, ◌≤◌, ℤ, pos, ◌+ℤ◌, ◌<ℤ◌, List, [], length, get_or, Bool, true, false, Contains, refl, sym, ap, subst, ◌∙◌, arith}
use Rattle.std.specs.Prelude.{int_lt, ◌⊎◌, nat_lt, if◌then◌else◌}
use mathlib.Core.Logic.{inl, inr}
use Rattle.std.specs.List.{range_with_len}
use Rattle.std.specs.Ordering.{int_eq}
use Rattle.std.proofs.lemmas.Int.{ints}
use Rattle.std.proofs.lemmas.List.{map-id}
use Rattle.std.proofs.lemmas.List.FromFn.{length-map-range_with_len, get_or-map-range_with_len}
use Rattle.specification.specs.Axis.{positions, sum_at, SharesOffset, is_empty}
use Rattle.specification.specs.Outcome.{Outcome, done, refused, refuse_if, ◌>>◌, ◌>>=◌}
use Rattle.specification.specs.Layout.{LayoutModel, offset_at, handed, IsAccepted}
use Rattle.specification.specs.Normal.{overfull, normal_of, normal_form}
use Rattle.specification.proofs.CheckInLaws.{normal_call_claims}
use Rattle.specification.proofs.OutcomeLaws.{clash, bound, done_inj}
use Rattle.specification.proofs.ReachClaimed.{reach_claims}
use Rattle.integer.specs.Range.{most_unsigned}
use Rattle.view.specs.AnswerClaims.{SomeAt}
use Rattle.view.specs.Count.{count_of}
use Rattle.view.proofs.CountLaws.{element-count-of-axes}
use Rattle.drawing.specs.Drawn.{offsets, picture_text, Picture, picture, too_many, drawn}
use Rattle.drawing.specs.DrawnClaims.{PictureClaims, DrawnClaims, IsCounted, cells, line}
use Rattle.drawing.proofs.RisingLaws.{AllAfter, Rising, rising_at, rising_filter}
use Rattle.drawing.proofs.CellLaws.{Above, rising}
use Rattle.drawing.proofs.MemberLaws.{Has, to_Contains, from_Contains, filtered, kept, somewhere, there, apart_to, apart_from, in_list, in_cells, all_apart, all_counted}

-- ---- a range rises

abbrev Below : ℕ → ℕ → Type 0
Below a b = a < b

range-after : (a b n : ℕ) → a < b → AllAfter Below a (range_with_len b n)
unfolding AllAfter
range-after a b zero h = tt
range-after a b (suc n) h = (h, range-after a (b + 1) n (omega arith))

range-rises : (a n : ℕ) → Rising Below (range_with_len a n)
unfolding Rising
range-rises a zero = tt
range-rises a (suc n) = (range-after a (a + 1) n (omega arith), range-rises (a + 1) n)

equal-is : (a b : ℤ) → a ≡ b → int_eq a b ≡ true
equal-is a b e = grind (arith, ints)

is-equal : (a b : ℤ) → int_eq a b ≡ true → a ≡ b
is-equal a b e = grind (arith, ints)

above-is : (a b : ℤ) → int_lt a b ≡ true → a <ℤ b
above-is a b e = grind (arith, ints)

same-sum : (z a b : ℤ) → z +ℤ a ≡ z +ℤ b → a ≡ b
same-sum z a b e = grind (arith, ints)

-- ---- a picture

module _ (l : LayoutModel) where
  as-many : length (offsets l) ≡ positions l.axes
  as-many = length-map-range_with_len (offset_at l) 0 (positions l.axes)

  offset-of : (k : ℕ) → k < positions l.axes → get_or (offsets l) k (pos 0) ≡ offset_at l k
  offset-of k h = get_or-map-range_with_len (offset_at l) 0 (positions l.axes) k k (pos 0) h (omega arith)

  reached-to : (z : ℤ) → Contains (cells l) z → SomeAt l z
  reached-to z c =
      let w = somewhere (offset_at l) 0 (positions l.axes) z (in_list (offsets l) z (from_Contains (cells l) z c)) in
      (w.0, omega (arith, w.2), w.3)

  reached-from : (z : ℤ) → SomeAt l z → Contains (cells l) z
  reached-from z (k, h, e) = to_Contains (cells l) z (in_cells (offsets l) z (subst (Has (offsets l)) e (there (offset_at l) 0 (positions l.axes) k (omega arith) (omega arith))))

  module _ (cell : ℤ) where
    abbrev stands : ℕ → Bool
    stands k = int_eq (get_or (offsets l) k (pos 0)) cell

    abbrev places : List ℕ
    places = range_with_len 0 (length (offsets l))

    in-range : (k : ℕ) → Has places k → k < positions l.axes
    in-range k h =
        let w = somewhere (λ i. i) 0 (length (offsets l)) k (subst (λ list. Has list k) (sym (map-id places)) h) in
        omega (arith, w.2, ap (λ (i : ℕ). i) w.3, as-many)

    on-line-to : (k : ℕ) → Contains (line l cell) k → (k < positions l.axes) × (offset_at l k ≡ cell)
    on-line-to k c =
        let w = filtered stands places k (from_Contains (line l cell) k c) in
        let h = in-range k w.0 in
        (h, sym (offset-of k h) ∙ is-equal _ cell w.1)

    on-line-from : (k : ℕ) → (k < positions l.axes) × (offset_at l k ≡ cell) → Contains (line l cell) k
    on-line-from k (h, e) = to_Contains (line l cell) k (kept stands places k
        (subst (λ list. Has list k) (map-id places) (there (λ i. i) 0 (length (offsets l)) k (omega arith) (omega (arith, as-many)))) (equal-is _ cell (offset-of k h ∙ e)))

  apart : length (cells l) ≡ positions l.axes → ¬ (SharesOffset l.axes)
  apart e s = go (cases s.one s.other s.different)
    where
      differ : (i j : ℕ) → i < j → j < positions l.axes → offset_at l i ≢ offset_at l j
      differ i j h k = apart_to (offset_at l) 0 (positions l.axes) (all_apart (offsets l) (e ∙ sym as-many)) i j (omega arith) h (omega arith)

      cases : (i j : ℕ) → i ≢ j → (i < j) ⊎ (j < i)
      cases i j n = grind (arith, ints)

      go : (s.one < s.other) ⊎ (s.other < s.one) → ⊥
      go (inl h) = differ s.one s.other h s.other_is (ap (λ sum. l.offset +ℤ sum) s.same)
      go (inr h) = differ s.other s.one h s.one_is (ap (λ sum. l.offset +ℤ sum) (sym s.same))

  counted : ¬ (SharesOffset l.axes) → length (cells l) ≡ positions l.axes
  counted n = all_counted (offsets l) (apart_from (offset_at l) 0 (positions l.axes) (λ i j a h k e. n (record {
    one = i;
    other = j;
    one_is = omega arith;
    other_is = omega arith;
    different = λ q. omega arith;
    same = same-sum l.offset (sum_at l.axes i) (sum_at l.axes j) e;
  }))) ∙ as-many

pub picture_claims : PictureClaims
picture_claims = record {
  reached = λ l z. (reached-to l z, reached-from l z);
  increasing = λ l i h. above-is _ _ (rising_at Above (cells l) (rising (offsets l)) i (pos 0) h);
  on_line = λ l cell k. (on-line-to l cell k, on-line-from l cell k);
  in_order = λ l cell i h. rising_at Below (line l cell) (rising_filter Below (stands l cell) (places l cell) (range-rises 0 (length (offsets l)))) i 0 h;
  one_each = λ l. (apart l, counted l);
}

-- ---- the call

-- what is answered if nothing is refused
abbrev shown : LayoutModel → Picture
shown l = if nat_lt 200 (positions l.axes) then too_many (positions l.axes) else picture (picture_text l)

by-handed : (l : LayoutModel) (o : Outcome (Unit {0})) → handed l 0 ≡ o → drawn l ≡ (normal_form l >>= λ n. done (shown l))
unfolding drawn normal_form count_of refuse_if ◌>>◌ ◌>>=◌
by-handed l (refused number values) e = rw e
by-handed l (done u) e =
    let few = ((reach_claims.handed_passes l 0).0 e).0.few in
    rw (e, element-count-of-axes l.axes few) (go (overfull l.axes))
  where
    go : (t : Bool) → ((refuse_if t 8 [] >> done (positions l.axes)) >>= λ count. done (if nat_lt 200 count then too_many count else picture (picture_text l)))
        ≡ ((refuse_if t 8 [] >> done (normal_of l)) >>= λ n. done (shown l))
    go true = refl
    go false = refl

module _ (l : LayoutModel) where
  by-normal : drawn l ≡ (normal_form l >>= λ n. done (shown l))
  by-normal = by-handed l (handed l 0) refl

  refused-there : (o : Outcome LayoutModel) (number : ℕ) (values : List ℕ) → (o >>= λ n. done (shown l)) ≡ refused number values → o ≡ refused number values
  unfolding ◌>>=◌
  refused-there (done n) number values e = absurd (clash e)
  refused-there (refused n vs) number values e = cc

  refused-here : (o : Outcome LayoutModel) (number : ℕ) (values : List ℕ) → o ≡ refused number values → (o >>= λ n. done (shown l)) ≡ refused number values
  unfolding ◌>>=◌
  refused-here o number values e = rw e

  -- a picture or a count: nothing is refused
  passed : (p : Picture) → drawn l ≡ done p → (IsAccepted l × (overfull l.axes ≡ false)) × (shown l ≡ p)
  passed p e =
      let b = bound (sym by-normal ∙ e) in
      (((normal_call_claims.passes l b.what).0 b.was).0, done_inj b.after)

  passes : IsAccepted l → overfull l.axes ≡ false → drawn l ≡ done (shown l)
  unfolding ◌>>=◌
  passes a o = by-normal ∙ rw ((normal_call_claims.passes l (normal_of l)).1 ((a, o), refl))

  fits-counted : overfull l.axes ≡ false → positions l.axes ≤ most_unsigned
  unfolding overfull
  fits-counted e = go (is_empty l.axes) refl e
    where
      go : (t : Bool) → is_empty l.axes ≡ t → (if t then false else nat_lt most_unsigned (positions l.axes)) ≡ false → positions l.axes ≤ most_unsigned
      go true q e = omega (arith, (reach_claims.empty_is l).0 q)
      go false q e = grind (arith, ints)

  counted-fits : positions l.axes ≤ most_unsigned → overfull l.axes ≡ false
  unfolding overfull
  counted-fits h = go (is_empty l.axes)
    where
      go : (t : Bool) → (if t then false else nat_lt most_unsigned (positions l.axes)) ≡ false
      go true = refl
      go false = grind (arith, ints)

  few-shown : positions l.axes ≤ 200 → shown l ≡ picture (picture_text l)
  few-shown h = grind (arith, ints)

  many-shown : 200 < positions l.axes → shown l ≡ too_many (positions l.axes)
  many-shown h = grind (arith, ints)

abbrev is-many : Picture → Bool
is-many (picture text) = false
is-many (too_many count) = true

abbrev how-many : Picture → ℕ
how-many (picture text) = 0
how-many (too_many count) = count

by-test : (t : Bool) (n : ℕ) (text : List ℕ) (p : Picture) → (if t then too_many n else picture text) ≡ p → is-many p ≡ t
by-test true n text p e = ap is-many (sym e)
by-test false n text p e = ap is-many (sym e)

pub drawn_claims : DrawnClaims
drawn_claims = record {
  refuses = λ l number values. (
    λ e. (normal_call_claims.refuses l number values).0 (refused-there l (normal_form l) number values (sym (by-normal l) ∙ e)),
    λ r. by-normal l ∙ refused-here l (normal_form l) number values ((normal_call_claims.refuses l number values).1 r),
  );
  draws = λ l. (draws-to l, λ w. passes l w.0 (counted-fits l (omega (arith, w.1))) ∙ ap done (few-shown l w.1));
  tells = λ l count. (tells-to l count, λ w. passes l w.0 (counted-fits l w.1) ∙ ap done (many-shown l w.2 ∙ ap too_many w.3));
}
  where
    draws-to : (l : LayoutModel) → drawn l ≡ done (picture (picture_text l)) → IsAccepted l × (positions l.axes ≤ 200)
    draws-to l e = let w = passed l _ e in let t = by-test (nat_lt 200 (positions l.axes)) (positions l.axes) (picture_text l) _ w.1 in (w.0.0, grind (arith, ints))

    tells-to : (l : LayoutModel) (count : ℕ) → drawn l ≡ done (too_many count) → IsAccepted l × IsCounted l × (200 < positions l.axes) × (positions l.axes ≡ count)
    tells-to l count e =
        let w = passed l _ e in
        let t = by-test (nat_lt 200 (positions l.axes)) (positions l.axes) (picture_text l) _ w.1 in
        let many : 200 < positions l.axes = grind (arith, ints) in
        (w.0.0, fits-counted l w.0.1, many, ap how-many (sym (many-shown l many) ∙ w.1))
