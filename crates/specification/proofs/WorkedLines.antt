-- The worked examples, together: they compute.
use mathlib.Core.Path.{refl}
use Rattle.specification.specs.WorkedExamples.{WorkedExamples}
use Rattle.specification.proofs.Computing.{computing}

pub worked_examples : WorkedExamples
unfolding computing
worked_examples = record {
  rank_0_length_0 = refl;
  rank_0_length_1 = refl;
  backward_from_2 = refl;
  backward_from_1 = refl;
  diagonal_of_three = refl;
  normal_merged = refl;
  normal_still = refl;
  dense = λ words. refl;
  stride_0 = λ words. refl;
  two_apart = λ words. refl;
  two_collide = λ words. refl;
  three_collide = λ words. refl;
  three_apart = λ words. refl;
  least_stride = λ words. refl;
  record_dense = λ words. refl;
}
