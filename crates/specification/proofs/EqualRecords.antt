-- Two records are equal exactly if their layouts have the same offsets: the bytes tell the normal form, and the normal form is canonical.
use mathlib.Core.Path.{◌≡◌, sym, ap, subst, ◌∙◌}
use mathlib.Core.List.{List, [], ◌++◌}
use mathlib.Core.Logic.{◌↔◌}
use Prim.Native.Nat.{ℕ}
use Rattle.specification.specs.Axis.{Axis}
use Rattle.specification.specs.Outcome.{done}
use Rattle.specification.specs.Layout.{LayoutModel, IsAccepted}
use Rattle.specification.specs.Normal.{normal_of}
use Rattle.specification.specs.Verdict.{Verdict, Judged, judge}
use Rattle.specification.specs.Record.{record_bytes, Made, with_buffer, layout_from}
use Rattle.specification.specs.NormalClaims.{SameOffsets, SameForm}
use Rattle.specification.proofs.NormalLaws.{canonical-iff}
use Rattle.specification.proofs.FieldsFit.{FieldsFit, fields_fit}
use Rattle.specification.proofs.RecordFront.{layout-told}
use Rattle.specification.proofs.PlanCases.{same-judged}
use Rattle.specification.proofs.WriterAnswers.{Writes}

-- the buffer length is no part of a record
pub same-form-bytes : (l m : LayoutModel) (v w : Verdict) → SameForm l m → v ≡ w → record_bytes l v ≡ record_bytes m w
unfolding record_bytes
same-form-bytes l m v w f e = λ i. record_bytes (record { buffer = l.buffer; offset = f.same_offset i; axes = f.same_axes i }) (e i)

-- the bytes tell the offset and the axes: each record is read as it was written
form-told : (l m : LayoutModel) (v w : Verdict) → FieldsFit l → FieldsFit m → record_bytes l v ≡ record_bytes m w → SameForm l m
unfolding with_buffer
form-told l m v w f g e =
    let p : with_buffer l ≡ with_buffer m = sym (layout-told l v [] f) ∙ ap (λ (b : List ℕ). layout_from (b ++ [])) e ∙ layout-told m w [] g in
    record { same_offset = ap (λ (x : LayoutModel). x.offset) p; same_axes = ap (λ (x : LayoutModel). x.axes) p }

module _ (x y : LayoutModel) (a : IsAccepted x) (b : IsAccepted y) {room room' words words' : ℕ} {m m' : Made} (w : Writes x room words m) (v : Writes y room' words' m') where
  same-offsets : m.bytes ≡ m'.bytes → SameOffsets x y
  same-offsets e =
      let q = ap (λ (r : Made). r.bytes) (sym w.is) ∙ e ∙ ap (λ (r : Made). r.bytes) v.is in
      (canonical-iff x y).0 (form-told (normal_of x) (normal_of y) w.j.answer v.j.answer (fields_fit x a w.few) (fields_fit y b v.few) q)

  same_bytes : SameOffsets x y → m.bytes ≡ m'.bytes
  same_bytes s =
      let f = (canonical-iff x y).1 s in
      let q = same-judged (normal_of y).axes words words' w.j v.j (subst (λ (l : List Axis). judge l words ≡ done w.j) f.same_axes w.judged) v.judged in
      ap (λ (r : Made). r.bytes) w.is ∙ same-form-bytes (normal_of x) (normal_of y) w.j.answer v.j.answer f (ap (λ (j : Judged). j.answer) q) ∙ ap (λ (r : Made). r.bytes) (sym v.is)

  pub equal-exactly : (m.bytes ≡ m'.bytes) ↔ SameOffsets x y
  equal-exactly = (same-offsets, same_bytes)
