-- The call by how many means there are: the front of the output is as long.
use Rattle.std.proofs.Common.{◌≡◌, refl, sym, ap, ◌∙◌, ℕ, ◌<◌, ◌≤◌, List, ◌++◌, ℤ, length, take, drop, arith}
use Rattle.std.proofs.lemmas.List.{length-take-le}
use Rattle.specification.specs.Layout.{LayoutModel}
use Rattle.specification.specs.Outcome.{done}
use Rattle.means.specs.Means.{first_means, means_of, means_after}
use Rattle.means.specs.MeansClaims.{MeansWritten}
use Rattle.means.proofs.MeansAnswers.{means-passed}

module _ (l : LayoutModel) (axis count : ℕ) (readings out : List ℤ) (e : done count ≡ means_of l axis (length readings) (length out)) where
  written : MeansWritten l axis (length readings) (length out) count
  written = (means-passed l axis (length readings) (length out) count).0 (sym e)

  pub fits_out : count ≤ length out
  fits_out = omega (arith, written.has_room, written.count_is)

  pub front_length : count ≡ length (take count out)
  front_length = sym (length-take-le count out fits_out)

  pub front_some : 0 < count → 0 < length (take count out)
  front_some h = omega (arith, h, front_length)

  -- the front is an output of just the size
  pub front_suits : MeansWritten l axis (length readings) (length (take count out)) (length (take count out))
  front_suits = record {
    held = written.held;
    has_room = omega (arith, written.count_is, front_length);
    some_along = written.some_along;
    few_along = written.few_along;
    count_is = sym front_length ∙ written.count_is;
  }

  pub front_written : {front : List ℤ} → front ≡ first_means l axis readings (length (take count out)) → front ++ drop count out ≡ means_after (done count) l axis readings out
  unfolding means_after
  front_written f = ap (λ (means : List ℤ). means ++ drop count out) (f ∙ ap (first_means l axis readings) (sym front_length))

  pub none_written : ¬ (0 < count) → out ≡ means_after (done count) l axis readings out
  unfolding means_after
  none_written h = let z : count ≡ 0 = omega (arith, h) in rw z refl
