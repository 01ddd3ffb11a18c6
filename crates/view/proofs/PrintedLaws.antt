-- The axes that are shown are those in the places of the array, up to the rank.
use Rattle.std.proofs.Common.{◌≡◌, ℕ, ◌<◌, List, [], ◌∷◌, ◌++◌, length, map, take, get_or, min, refl, ap, sym, ◌∙◌, arith}
use Rattle.std.specs.Fn.{Mut, Called}
use Rattle.std.specs.Array.{IsMapOf}
use Rattle.std.proofs.lemmas.List.{length-take, length-map, get_or-take, get_or-map, ext_get_or}
use Rattle.std.proofs.lemmas.List.Folds.{flat_map-map}
use Rattle.specification.specs.Axis.{Axis}
use Rattle.specification.specs.Views.{axis_at}
use Rattle.view.specs.Model.{first_axes}
use Rattle.view.proofs.TableLaws.{length-table, get_or-table}
use Rattle.view.specs.Printed.{joined, list_text}

list_text-map : {A B : Type 0} (text_of : B → List ℕ) (f : A → B) (xs : List A) → list_text (λ x. text_of (f x)) xs ≡ list_text text_of (map f xs)
unfolding list_text joined
list_text-map text_of f [] = refl
list_text-map text_of f (x ∷ xs) = ap (λ rest. text_of (f x) ++ rest) (sym (flat_map-map (λ y. 44 ∷ text_of y) f xs))

-- the places of an array that was made entry by entry, up to the rank
module _ {F B : Type 0} (part : Axis → B) (g : Mut F (Axis × Unit {0}) B) (start : F) (axes : List Axis) (parts : List B) (rank : ℕ) (made : IsMapOf g start axes parts 16)
    (same : (p : F) (x : Axis) (y : B) (q : F) → Called g p (x, tt) y q → y ≡ part x) where
  place : (i : ℕ) (d : B) → i < 16 → part (axis_at axes i) ≡ get_or parts i d
  place i d inside = let call = made.at i (axis_at [] 0) d inside in sym (same call.0 (axis_at axes i) (get_or parts i d) call.1 call.2)

  places : map part (take 16 (first_axes axes rank)) ≡ take rank parts
  places =
      let d : B = part (axis_at axes 0) in
      let held : List Axis = take 16 (first_axes axes rank) in
      let long : length held ≡ min 16 rank = length-take 16 (first_axes axes rank) ∙ ap (min 16) (length-table (axis_at axes) rank) in
      let all : length (map part held) ≡ length held = length-map held part in
      let short : length (take rank parts) ≡ min rank 16 = length-take rank parts ∙ ap (min rank) made.long in
      ext_get_or d (map part held) (take rank parts) (omega (arith, long, all, short))
      (λ i lt.
      let in_rank : i < rank = omega (arith, long, all) in
      let in_sixteen : i < 16 = omega (arith, long, all) in
      get_or-map part held i (axis_at axes i) d (omega (arith, all))
      ∙ ap part (get_or-take 16 (first_axes axes rank) i (axis_at axes i) in_sixteen ∙ get_or-table (axis_at axes) rank i (axis_at axes i) in_rank)
      ∙ place i d in_sixteen
      ∙ sym (get_or-take rank parts i d in_rank))

  pub parts_shown : (text_of : B → List ℕ) → list_text text_of (take rank parts) ≡ list_text (λ a. text_of (part a)) (take 16 (first_axes axes rank))
  parts_shown text_of = ap (list_text text_of) (sym places) ∙ sym (list_text-map text_of part (take 16 (first_axes axes rank)))
