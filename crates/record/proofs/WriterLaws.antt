-- What the writer's rules need beside themselves: a normal form has at most 16 axes, and its record is written field by field.
use mathlib.Core.Path.{◌≡◌, refl, ap}
use mathlib.Core.List.{append_assoc}
use Prim.Native.Nat.{◌≤◌}
use native.Mathlib.Omega.{arith}
use Rattle.specification.specs.Outcome.{Outcome, done, refused}
use Rattle.specification.specs.Layout.{LayoutModel, rank}
use Rattle.specification.specs.Normal.{normal_form}
use Rattle.specification.specs.Verdict.{Verdict}
use Rattle.specification.specs.Record.{record_bytes, verdict_byte}
use Rattle.specification.proofs.CheckInLaws.{normal_call_claims}
use Rattle.specification.proofs.RecordFields.{length-record_bytes}
use Rattle.specification.proofs.WriterLaws.{normal-accepted}
use Rattle.view.proofs.AxesLaws.{length_first_axes}
use Rattle.std.proofs.lemmas.Bool.Decides.{nat_tests}
use Rattle.record.specs.Fields.{head_bytes, record_fields}
use Rattle.specification.proofs.OutcomeLaws.{chains}

-- the record by its fields, with the verdict's byte
pub fields_of_record : (l : LayoutModel) (v : Verdict) → record_bytes l v ≡ record_fields l (verdict_byte v)
unfolding record_bytes head_bytes
fields_of_record l v = simp append_assoc

-- a normal form, if there is one, has at most 16 axes
abbrev pub FewIfDone : Outcome LayoutModel → Type 0
FewIfDone (done n) = rank n ≤ 16
FewIfDone (refused number values) = Unit {0}

pub few_formed : (l : LayoutModel) → FewIfDone (normal_form l)
few_formed l = by (normal_form l) refl
  where
    by : (o : Outcome LayoutModel) → normal_form l ≡ o → FewIfDone o
    by (refused number values) e = tt
    by (done n) e =
        let w = (normal_call_claims.passes l n).0 e in
        let a = normal-accepted l w.0.0 in
        omega (arith, ap rank w.1, a.few)

-- what the writer's rules compute to, and how long a record is
pub ruleset writings = (chains, nat_tests, few_formed, length_first_axes, fields_of_record, length-record_bytes)
