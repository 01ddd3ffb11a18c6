-- Everything that a line with numbers in it computes with: a proof that says `unfolding computing` unfolds all of it.
use Rattle.integer.specs.Gcd.{gcd, gcd_within}
use Rattle.integer.specs.Multiple.{◌·◌}
use Rattle.integer.proofs.BoundedEquation.{first_from, lowest, solution?, solvable, fits_test}
use Rattle.integer.proofs.Congruence.{root, coefficient, coefficient_within, sub_mod}
use Rattle.integer.proofs.Decide.{by_test}
use Rattle.specification.specs.Tests.{insert_by, sort_by}
use Rattle.specification.specs.Axis.{axes_of_lists, product, index_at, is_empty, upward, downward}
use Rattle.specification.specs.Outcome.{refuse_if, ◌>>◌, ◌>>=◌}
use Rattle.specification.specs.Layout.{is_in_reach, handed}
use Rattle.specification.specs.CheckIn.{bounds, check_in}
use Rattle.specification.specs.TiedDecided.{name, tied?}
use Rattle.specification.specs.Views.{unless_refused, order_fault, permute, pairs_of, pair_fault, class_of, kept, least_extent, stride_sum, stride_fault, fused, diagonal_axes, sum_faults, diagonal_view, target_fault, spread, broadcast}
use Rattle.specification.specs.Normal.{merge_into, merge, normal_axes, normal_of, overfull, normal_form}
use Rattle.specification.specs.Search.{reach, span_sum, two_distinct, half, from_digits, difference_sum, first_of, words_for}
use Rattle.specification.specs.Decided.{completes?}
use Rattle.specification.specs.Verdict.{active_from, up_to_last, block_of, by_two, others_of, hit, placed, searched, plan_past_search, by_many, by_size, by_block_size, is_out_of_range, plan_of, carry_out, judge, verdict}
use Rattle.specification.specs.Record.{axis_bytes, record_bytes, written, length_field, number_at, axes_from, fields_right, is_merged, is_normal_form, with_buffer, layout_from, read_of}
use Rattle.specification.specs.Beside.{next_step, running, col_major, row_major, order_among, index_order, sum_indexed, indexed_offset}

-- a name for the list
unfoldable pub computing : Unit {0}
unfolding gcd gcd_within
    ◌·◌
    first_from lowest solution? solvable fits_test
    root coefficient coefficient_within sub_mod
    by_test
    insert_by sort_by
    axes_of_lists product index_at is_empty upward downward
    refuse_if ◌>>◌ ◌>>=◌
    is_in_reach handed
    bounds check_in
    name tied?
    unless_refused order_fault permute pairs_of pair_fault class_of kept least_extent stride_sum stride_fault fused diagonal_axes sum_faults diagonal_view target_fault spread broadcast
    merge_into merge normal_axes normal_of overfull normal_form
    reach span_sum two_distinct half from_digits difference_sum first_of words_for
    completes?
    active_from up_to_last block_of by_two others_of hit placed searched plan_past_search by_many by_size by_block_size is_out_of_range plan_of carry_out judge verdict
    axis_bytes record_bytes written length_field number_at axes_from fields_right is_merged is_normal_form with_buffer layout_from read_of
    next_step running col_major row_major order_among index_order sum_indexed indexed_offset
computing = tt
