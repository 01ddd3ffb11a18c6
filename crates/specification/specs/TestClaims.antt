-- Claims on the tests that the rules are said with: each holds exactly if what it tests is so.
-- RULES, "Check-in", "The normal form", "The verdict: inputs".
use Rattle.std.specs.List.{list_any}
use Rattle.std.specs.Prelude.{true, List, ◌↔◌, ◌≡◌, ℕ, ◌-◌, ◌^◌, ◌<◌, ◌≤◌, ℤ, pos, negsuc, length}
use Rattle.std.specs.Int.{w64, FitsUnsigned}
use Rattle.std.specs.Prelude.{FitsSigned}
use Rattle.integer.specs.Range.{fits, most_signed, most_unsigned}
use Rattle.specification.specs.Axis.{Axis, positions, is_empty, span, upward, downward}
use Rattle.specification.specs.CheckIn.{is_too_wide}
use Rattle.specification.specs.Views.{axis_at}
use Rattle.specification.specs.Normal.{overfull}
use Rattle.specification.specs.Verdict.{still, is_out_of_range}

-- some axis is so
pub record SomeAxis (axes : List Axis) (So : Axis → Type 0) : Type 0 where
  pub axis : ℕ
  pub in_rank : axis < length axes
  pub is_so : So (axis_at axes axis)

-- the causes of the verdict's refusal 3 (-2^63 is `negsuc most_signed`)
pub data IsOutOfRange (axes : List Axis) : Type 0 where
  -- an active extent minus 1 above 2^63 - 1
  wide : SomeAxis axes (λ a. (1 < a.extent) × (most_signed < a.extent - 1)) → IsOutOfRange axes
  -- a span that does not fit 64 bits signed
  span_out : SomeAxis axes (λ a. ¬ (FitsSigned w64 (span a))) → IsOutOfRange axes
  -- positive spans whose sum is above 2^63 - 1
  upward_out : most_signed < upward axes → IsOutOfRange axes
  -- negative spans whose sum is below -2^63
  downward_out : 2 ^ 63 < downward axes → IsOutOfRange axes
  -- an active stride of -2^63
  least_stride : SomeAxis axes (λ a. (1 < a.extent) × (a.stride ≡ negsuc most_signed)) → IsOutOfRange axes

pub record TestClaims : Type 0 where
  -- 64 bits signed
  pub in_range : (z : ℤ) → (fits z ≡ true) ↔ FitsSigned w64 z
  -- 64 bits unsigned
  pub in_word : (n : ℕ) → (n ≤ most_unsigned) ↔ FitsUnsigned w64 (pos n)
  -- a zero extent
  pub empty : (axes : List Axis) → (is_empty axes ≡ true) ↔ SomeAxis axes (λ a. a.extent ≡ 0)
  -- not empty, with more than 2^64 - 1 positions
  pub over : (axes : List Axis) → (overfull axes ≡ true) ↔ (¬ (SomeAxis axes (λ a. a.extent ≡ 0))) × (most_unsigned < positions axes)
  -- an active extent minus 1 above 2^63 - 1
  pub too_wide : (axes : List Axis) → (list_any is_too_wide axes ≡ true) ↔ SomeAxis axes (λ a. (1 < a.extent) × (most_signed < a.extent - 1))
  -- an active stride 0
  pub stands_still : (axes : List Axis) → (list_any still axes ≡ true) ↔ SomeAxis axes (λ a. (1 < a.extent) × (a.stride ≡ pos 0))
  -- the causes of the verdict's refusal 3
  pub out_of_range : (axes : List Axis) → (is_out_of_range axes ≡ true) ↔ IsOutOfRange axes
