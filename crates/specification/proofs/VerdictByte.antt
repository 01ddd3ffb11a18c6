-- The verdict byte is true of the layout whose normal form was judged: layouts with the same offsets share an offset together.
use mathlib.Core.Path.{◌≡◌, refl, ap}
use Prim.Native.Nat.{ℕ}
use native.Mathlib.Omega.{arith}
use Rattle.specification.specs.Axis.{SharesOffset}
use Rattle.specification.specs.Outcome.{done}
use Rattle.specification.specs.Layout.{LayoutModel}
use Rattle.specification.specs.Normal.{normal_of}
use Rattle.specification.specs.Verdict.{Verdict, Distinct, Repeated, Undecided, Judged, judge, BothBudgetsPassed}
use Rattle.specification.specs.Record.{verdict_byte}
use Rattle.specification.specs.NormalClaims.{SameOffsets}
use Rattle.specification.specs.VerdictClaims.{Says}
use Rattle.specification.specs.RecordsAgree.{TrueByte}
use Rattle.specification.proofs.NormalLaws.{normal-same, same-sym}
use Rattle.specification.proofs.VerdictLaws.{true_answer, only_undecided}
use Rattle.std.proofs.lemmas.Int.{ints}

shared-by-same : {x y : LayoutModel} → SameOffsets x y → SharesOffset x.axes → SharesOffset y.axes
shared-by-same s w = grind (arith, ints)

module _ (x : LayoutModel) where
  shared-forth : SharesOffset (normal_of x).axes → SharesOffset x.axes
  shared-forth = shared-by-same (normal-same x)

  shared_back : SharesOffset x.axes → SharesOffset (normal_of x).axes
  shared_back = shared-by-same (same-sym (normal-same x))

  -- an answer that is true of the normal form, and Undecided if both budgets are passed
  byte-of-answer : (v : Verdict) → Says v (normal_of x).axes → (BothBudgetsPassed (normal_of x).axes → v ≡ Undecided) → TrueByte x (verdict_byte v)
  byte-of-answer Distinct s u = record {
    undecided = (λ e. absurd (omega arith), λ b. absurd (omega (arith, ap verdict_byte (u b))));
    distinct = λ n. (λ e w. s (shared_back w), λ w. refl);
    repeated = λ n. (λ e. absurd (omega arith), λ w. absurd (s (shared_back w)));
  }
  byte-of-answer Repeated s u = record {
    undecided = (λ e. absurd (omega arith), λ b. absurd (omega (arith, ap verdict_byte (u b))));
    distinct = λ n. (λ e. absurd (omega arith), λ w. absurd (w (shared-forth s)));
    repeated = λ n. (λ e. shared-forth s, λ w. refl);
  }
  byte-of-answer Undecided s u = record { undecided = (λ e. s, λ b. refl); distinct = λ n. absurd (n s); repeated = λ n. absurd (n s) }

  pub true_byte : (words : ℕ) (j : Judged) → judge (normal_of x).axes words ≡ done j → TrueByte x (verdict_byte j.answer)
  true_byte words j e = byte-of-answer j.answer (true_answer (normal_of x).axes words j e) (only_undecided (normal_of x).axes words j e)
