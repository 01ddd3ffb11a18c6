-- Claims on check-in and on the call of the normal form: when each passes, and how each is refused.
-- RULES, "Check-in", "The normal form".
use Rattle.std.specs.Prelude.{true, false, List, [], ◌≢◌, ◌⊎◌, ◌↔◌, ◌≡◌, ℕ, ◌-◌, ◌<◌, ◌≤◌, ℤ, pos, length, ◌≤ℤ◌, ◌<ℤ◌}
use Rattle.std.specs.Int.{w64}
use Rattle.std.specs.Prelude.{FitsSigned}
use Rattle.integer.specs.Range.{most_signed}
use Rattle.specification.specs.Axis.{Axis, extents, strides, axes_of_lists, is_empty, span}
use Rattle.specification.specs.Outcome.{done, refused}
use Rattle.specification.specs.Layout.{LayoutModel, lowest, highest, IsAccepted, HandedRefused}
use Rattle.specification.specs.CheckIn.{check_in}
use Rattle.specification.specs.Normal.{overfull, normal_of, normal_form}
use Rattle.specification.specs.TestClaims.{SomeAxis}

-- the five causes of refusal 3
pub data IsOutOfBounds (l : LayoutModel) : Type 0 where
  -- an extent above 2^63
  wide : SomeAxis l.axes (λ a. (1 < a.extent) × (most_signed < a.extent - 1)) → IsOutOfBounds l
  -- a span that does not fit 64 bits signed
  span_out : SomeAxis l.axes (λ a. ¬ (FitsSigned w64 (span a))) → IsOutOfBounds l
  -- the highest offset above 2^63 - 1
  too_high : pos most_signed <ℤ highest l → IsOutOfBounds l
  -- the lowest offset below 0
  too_low : lowest l <ℤ pos 0 → IsOutOfBounds l
  -- the highest offset at or past the end of the buffer
  past_buffer : pos l.buffer ≤ℤ highest l → IsOutOfBounds l

-- the layout of what is handed to check-in
abbrev pub layout_of : ℕ → ℤ → List ℕ → List ℤ → LayoutModel
layout_of buffer offset extents strides = record { buffer = buffer; offset = offset; axes = axes_of_lists extents strides }

-- how check-in refuses
pub data CheckInRefused (buffer : ℕ) (offset : ℤ) (extents : List ℕ) (strides : List ℤ) : ℕ → List ℕ → Type 0 where
  too_many : (16 < length extents) ⊎ (16 < length strides) → CheckInRefused buffer offset extents strides 1 []
  wrong_length : length extents ≤ 16 → length strides ≤ 16 → length extents ≢ length strides → CheckInRefused buffer offset extents strides 2 []
  out_of_bounds : length extents ≤ 16 → length extents ≡ length strides → is_empty (axes_of_lists extents strides) ≡ false
      → IsOutOfBounds (layout_of buffer offset extents strides) → CheckInRefused buffer offset extents strides 3 []

-- and when it passes
pub record IsCheckedIn (buffer : ℕ) (offset : ℤ) (extents : List ℕ) (strides : List ℤ) : Type 0 where
  pub few : length extents ≤ 16
  pub as_many : length extents ≡ length strides
  -- of an empty layout nothing more is asked
  pub in_bounds : (is_empty (axes_of_lists extents strides) ≡ true) ⊎ (¬ (IsOutOfBounds (layout_of buffer offset extents strides)))

pub record CheckInClaims : Type 0 where
  -- axes are paired again from their extents and strides
  pub lists_of_axes : (axes : List Axis) → axes_of_lists (extents axes) (strides axes) ≡ axes
  pub passes : (buffer : ℕ) (offset : ℤ) (extents : List ℕ) (strides : List ℤ) (l : LayoutModel)
      → (check_in buffer offset extents strides ≡ done l) ↔ IsCheckedIn buffer offset extents strides × (layout_of buffer offset extents strides ≡ l)
  pub refuses : (buffer : ℕ) (offset : ℤ) (extents : List ℕ) (strides : List ℤ) (number : ℕ) (values : List ℕ)
      → (check_in buffer offset extents strides ≡ refused number values) ↔ CheckInRefused buffer offset extents strides number values

-- how the call of the normal form refuses
pub data NormalRefused (l : LayoutModel) : ℕ → List ℕ → Type 0 where
  handed_in : {number : ℕ} {values : List ℕ} → HandedRefused l 0 number values → NormalRefused l number values
  overfull_is : IsAccepted l → overfull l.axes ≡ true → NormalRefused l 8 []

pub record NormalCallClaims : Type 0 where
  pub passes : (l x : LayoutModel) → (normal_form l ≡ done x) ↔ (IsAccepted l × (overfull l.axes ≡ false)) × (normal_of l ≡ x)
  pub refuses : (l : LayoutModel) (number : ℕ) (values : List ℕ) → (normal_form l ≡ refused number values) ↔ NormalRefused l number values
