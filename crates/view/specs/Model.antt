-- What a layout means: as many axes as the rank says, also above 16; what stands in places past the rank does not count.
use Rattle.std.specs.Prelude.{List, ℕ, ℤ, Result}
use Rattle.std.specs.Result.{result_map_both}
use Rattle.view.specs.Table.{table}
use Rattle.specification.specs.Axis.{Axis}
use Rattle.specification.specs.Layout.{LayoutModel}
use Rattle.specification.specs.Outcome.{Outcome, done, refused, pass}
use Rattle.specification.specs.Views.{After, axis_at}
use Rattle.view.specs.Answers.{outcome_of, outcome_by}
use Rattle.view.specs.declared.layout.Layout.{Layout}
use Rattle.view.specs.declared.layout.Viewed.{Viewed}
use Rattle.view.specs.declared.layout.Refusal.{Refusal}

-- a buffer length, an offset and axes, as a layout
abbrev pub model_from : ℕ → ℤ → List Axis → LayoutModel
model_from buffer offset axes = record { buffer = buffer; offset = offset; axes = axes }

-- the first n axes of an array
abbrev pub first_axes : List Axis → ℕ → List Axis
first_axes axes n = table n (axis_at axes)

-- a layout by its meaning
abbrev pub model_of : Layout → LayoutModel
model_of l = model_from l.len l.offset.0 (first_axes l.axes l.rank)

-- an answer, and the layout after it
abbrev pub told : Result (Unit {0}) Refusal → Layout → After
told answer l = record { answer = outcome_of answer; layout = model_of l }

abbrev pub viewed_of : Viewed → After
viewed_of v = told v.answer v.layout

-- a layout, or its refusal
abbrev pub layout_outcome : Result Layout Refusal → Outcome LayoutModel
layout_outcome = outcome_by model_of

-- the layout of a view that was not refused, or the refusal
abbrev pub accepted_of : Viewed → Result Layout Refusal
accepted_of v = result_map_both (λ u. v.layout) (λ why. why) v.answer

-- check-in over a layout: the one checked in, or the refusal and the layout as it was
abbrev pub checked_into : LayoutModel → Outcome LayoutModel → After
checked_into old (done l) = record { answer = pass; layout = l }
checked_into old (refused number values) = record { answer = refused number values; layout = old }
