-- `means`: of the output that the means were written into, the front is answered.
use Rattle.std.proofs.Common.{rules, arith, ◌≡◌, ℕ, ℤ, List, length, take, drop, ap, ◌∙◌}
use Rattle.std.proofs.lemmas.List.{take_at}
use Rattle.std.proofs.lemmas.List.FromFn.{length-map-range_with_len}
use Rattle.specification.specs.Layout.{LayoutModel}
use Rattle.specification.specs.Outcome.{done}
use Rattle.means.specs.Means.{mean_at, first_means, means_after}
use Rattle.view.specs.Model.{model_of}
use Rattle.commands.specs.Readings.{means_text}
use Rattle.commands.proofs.readings.means.Goals as goal

front_is : (l : LayoutModel) (axis count : ℕ) (readings out after : List ℤ) → after ≡ means_after (done count) l axis readings out → take count after ≡ first_means l axis readings count
unfolding means_after
front_is l axis count readings out after e =
    ap (take count) e ∙ take_at (first_means l axis readings count) (drop count out) count (length-map-range_with_len (mean_at l axis readings) 0 count)

pub returns-clause-told : goal.returns-clause-told
unfolding means_text
returns-clause-told c =
    let out = c.means.new.out in
    let whole = take_at out (drop (length out) c.in_ok-means.means.items) c.in_ok-means.means.len (omega (arith, c.means.auto.out, c.as_mut_slice.ensures.len)) in
    let front = front_is (model_of c.args.current.now) c.in_ok-axis.axis c.in_ok-count.count c.as_slice.result.now c.as_mut_slice.result.now out c.in_ok-count.ensures.written in
    let answered = c.truncate.ensures.items ∙ ap (take c.in_ok-count.count) whole ∙ front in
    search rules
