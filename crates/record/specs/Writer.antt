-- The writer's answer as a number and values, and what a call of it leaves (RULES, "The record: writing").
use Rattle.view.specs.declared.layout.Layout.{Layout}
use Rattle.view.specs.declared.layout.Refusal.{Refusal}
use Rattle.record.specs.declared.fields.BytePlace.{BytePlace}
use Rattle.std.specs.Prelude.{List, ℕ, Result}
use Rattle.specification.specs.Outcome.{Outcome}
use Rattle.specification.specs.Record.{Writing}
use Rattle.view.specs.Answers.{outcome_by}
use Rattle.view.specs.Model.{model_of}

-- how many bytes were written, or the refusal
abbrev pub wrote_of : Result BytePlace Refusal → Outcome ℕ
wrote_of = outcome_by (λ place. place.0)

-- what `write_record` promises of a layout, lent output and lent scratch: its answer, and what both hold afterwards
abbrev pub Wrote : Layout → (output scratch : List ℕ) → Result BytePlace Refusal → (output-then scratch-then : List ℕ) → Type 0
Wrote l output scratch result output-then scratch-then = Writing (model_of l) output scratch (wrote_of result) output-then scratch-then
