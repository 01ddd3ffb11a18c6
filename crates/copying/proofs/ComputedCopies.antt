-- The copies of specs/CopyCases: they compute.
use Rattle.std.proofs.Common.{refl}
use Rattle.specification.specs.Axis.{offset_sum}
use Rattle.specification.specs.Verdict.{freed_by}
use Rattle.specification.specs.Readings.{least_buffer, handed_both}
use Rattle.specification.proofs.Computing.{computing}
use Rattle.copying.specs.Copy.{copy_handed, distinct_only, distinct_judged, copy_refusal, copy_frees, copies, copy_after}
use Rattle.copying.specs.CopyCases.{CopyCases}

pub copy_cases : CopyCases
unfolding computing offset_sum freed_by least_buffer handed_both copy_handed distinct_only distinct_judged copy_refusal copy_frees copies copy_after
copy_cases = record {
  copy_transposed = refl;
  copy_turned = refl;
  copy_passes = refl;
  copy_least = refl;
  copy_short = refl;
  copy_empty = refl;
  copy_one_first = refl;
  copy_three_of_destination = refl;
  copy_three_first = refl;
  copy_twelve = refl;
  copy_twelve_empty = refl;
  copy_twelve_first = refl;
  copy_thirteen_first = refl;
  copy_thirteen_before_nine = refl;
  copy_nine = refl;
  copy_words_free = refl;
  copy_words_kept = refl;
  copy_eight_first = refl;
  copy_repeated = refl;
  copy_wide = refl;
  copy_undecided = refl;
  copy_undecided_merging = refl;
  copy_merged = refl;
  copy_refused = refl;
}
