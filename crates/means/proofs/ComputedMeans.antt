-- The means of specs/MeansCases: they compute.
use Rattle.std.proofs.Common.{refl}
use Rattle.specification.specs.Axis.{offset_sum}
use Rattle.specification.specs.Readings.{least_buffer}
use Rattle.specification.proofs.Computing.{computing}
use Rattle.means.specs.Rounded.{rounded}
use Rattle.means.specs.Means.{remaining, sum_of, mean_at, extent_rule, means_of, means_after}
use Rattle.means.specs.MeansCases.{MeansCases}

pub means_cases : MeansCases
unfolding computing offset_sum least_buffer rounded remaining sum_of mean_at extent_rule means_of means_after
means_cases = record {
  rounded_half = refl;
  rounded_half_below = refl;
  rounded_third = refl;
  rounded_two_thirds_below = refl;
  means_of_faces = refl;
  means_of_columns = refl;
  mean_half_down = refl;
  means_backward = refl;
  means_middle = refl;
  means_of_one = refl;
  mean_of_five = refl;
  means_least = refl;
  means_one_first = refl;
  means_three_first = refl;
  means_five_first = refl;
  means_five_above = refl;
  means_five = refl;
  means_eight = refl;
  means_no_eight = refl;
  means_eight_of_none = refl;
  means_fifteen = refl;
  means_eight_first = refl;
  means_thirteen_first = refl;
  means_ten_first_of_none = refl;
  means_ten_first = refl;
  means_fifteen_empty = refl;
  means_sixteen = refl;
  means_most = refl;
  means_wide = refl;
  means_none = refl;
  means_refused = refl;
}
