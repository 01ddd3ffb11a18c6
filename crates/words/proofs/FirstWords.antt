-- A vector of a fixed room that was extended by no more items than fit holds them all.
use Rattle.std.proofs.Common.{◌≡◌, ◌≤◌, ℕ, List, [], ◌++◌, length, map, ap, ◌∙◌, refl, arith, subst}
use Rattle.std.specs.Prelude.{Result, Ok, Err, Option, Some, OnErr}
use Rattle.std.specs.Iterator.{ExtendsWithItems, Yields, YieldsThen}
use Rattle.std.proofs.lemmas.Iterator.{YieldsList, items_from_drains}
use Rattle.std.proofs.lemmas.Iterator.Consumers.{YieldsList-turn}
use Rattle.arrayvec.specs.ArrayVec.{ArrayVec, Extends}

-- the first items are all that come, so at a failure it would be full, and one more would have come
pub holds_all : {S A B E : Type 0} {steps : S → Option A → S → Type 0} {v : A → B} {s : S} {all : List B} (room : ℕ) (r : Result (Unit {0}) E) (old new : ArrayVec A)
    → ExtendsWithItems (λ (iter it : S). it ≡ iter) steps Extends s old new r → OnErr r (length new.items ≡ room)
    → OnErr r ((it : S) × (xs : List A) × (x : A) × (rest : S) × (it ≡ s) × YieldsThen steps it xs (Some x) rest × Extends old xs new)
    → YieldsList steps v s all → length all ≤ room → old.items ≡ [] → map v new.items ≡ all
holds_all {S} {steps = steps} {v} room (Ok u) old new (it, xs, at, extends, (end, (t, yields, none))) full more gives few empty =
    ap (map v) (extends ∙ ap (λ items. items ++ xs) empty) ∙ items_from_drains xs (t, subst (λ (from : S). Yields steps from xs t) at yields, λ _. (end, none)) gives
holds_all {S} {steps = steps} room (Err e) old new ran full (it, xs, x, rest, is, (t, yields, turn), extends) gives few empty =
    let fewer = YieldsList-turn gives xs t (subst (λ (from : S). Yields steps from xs t) is yields) (Some x) rest x refl turn in
    absurd (omega (arith, fewer.0, few, full, ap length extends, ap (λ items. length (items ++ xs)) empty))
