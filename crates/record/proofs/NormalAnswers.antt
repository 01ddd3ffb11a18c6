-- The call for the normal form, and the count of positions, by their tests.
use Rattle.std.specs.Prelude.{if◌then◌else◌}
use mathlib.Core.Path.{◌≡◌, ◌∙◌}
use mathlib.Core.List.{List, []}
use Prim.Native.Nat.{ℕ, ◌≤◌}
use native.Mathlib.Omega.{arith}
use lib.ListN.{length}
use Rattle.std.proofs.lemmas.Int.{ints}
use Rattle.specification.specs.Outcome.{done, refused, refuse_if, ◌>>◌, pass}
use Rattle.specification.specs.Axis.{Axis, positions, extents}
use Rattle.specification.specs.Layout.{LayoutModel, handed}
use Rattle.specification.specs.Normal.{normal_of, overfull, normal_form}
use Rattle.view.specs.Count.{element_count, count_of}
use Rattle.view.proofs.CountLaws.{element-count-of-axes}

pub form_refused : (l : LayoutModel) {number : ℕ} {values : List ℕ} → refused number values ≡ handed l 0 → normal_form l ≡ refused number values
unfolding normal_form ◌>>◌
form_refused l e = grind (arith, ints)

pub form_handed : (l : LayoutModel) → pass ≡ handed l 0 → normal_form l ≡ (if overfull l.axes then refused 8 [] else done (normal_of l))
unfolding normal_form refuse_if ◌>>◌
form_handed l e = grind (arith, ints)

pub count_by_test : (axes : List Axis) → length axes ≤ 16 → element_count (extents axes) ≡ (if overfull axes then refused 8 [] else done (positions axes))
unfolding count_of refuse_if ◌>>◌
count_by_test axes few = element-count-of-axes axes few ∙ grind (arith, ints)

pub ruleset by_tests = (form_refused, form_handed, count_by_test)
