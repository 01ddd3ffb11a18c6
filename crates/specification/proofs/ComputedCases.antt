-- The cases of specs/Cases: they compute.
use mathlib.Core.Path.{refl}
use Rattle.specification.specs.Cases.{Cases}
use Rattle.specification.proofs.Computing.{computing}

-- each line by computing
pub cases : Cases
unfolding computing
cases = record {
  ascending_sums = refl;
  partial_sum = refl;
  larger_axis = refl;
  odd_last = refl;
  one_before_three = refl;
  permute_lengths = refl;
  broadcast_lengths = refl;
  emptied = refl;
  empty_first = refl;
  span_up = λ words. refl;
  span_down = λ words. refl;
  sum_up = λ words. refl;
  sum_down = λ words. refl;
  sum_past = λ words. refl;
  wide = λ words. refl;
  ties_to_lower = λ words. refl;
  lowest_digit = λ words. refl;
  later_place = λ words. refl;
  one_passed_over = λ words. refl;
  one_not_counted = λ words. refl;
  record_backward = λ words. refl;
  record_single = λ words. refl;
  read_repeated = λ words. refl;
  empty_dense = refl;
  row_dense = refl;
  order_ties = refl;
  sum_from_offset = refl;
}
