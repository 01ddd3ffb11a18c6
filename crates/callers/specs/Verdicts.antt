-- What a judgement says of axes, and a verdict byte of a layout, for whoever writes through them (RULES, "The verdict: budgets").
use Rattle.std.specs.Prelude.{List, ◌↔◌, ◌≡◌, ℕ}
use Rattle.specification.specs.Axis.{Axis, SharesOffset}
use Rattle.specification.specs.Layout.{LayoutModel}
use Rattle.specification.specs.Normal.{normal_of}
use Rattle.specification.specs.Verdict.{BothBudgetsPassed}
use Rattle.injectivity.specs.declared.Judgement.{Judgement}
use Rattle.injectivity.specs.declared.Judgement.TheVariants.{Distinct, Repeated, Undecided}

-- no two positions share an offset; two do; or both budgets are passed
abbrev pub IsTrueOf : List Axis → Judgement → Type 0
IsTrueOf axes (Distinct count) = (¬ (BothBudgetsPassed axes)) × (¬ (SharesOffset axes))
IsTrueOf axes (Repeated count) = (¬ (BothBudgetsPassed axes)) × SharesOffset axes
IsTrueOf axes Undecided = BothBudgetsPassed axes

-- the same as a byte, in the record of a layout: 3 exactly if both budgets are passed for the normal form;
-- 1 exactly if they are not and no two positions share an offset; 2 exactly if they are not and two do
pub record ByteTells (x : LayoutModel) (byte : ℕ) : Type 0 where
  pub undecided : (byte ≡ 3) ↔ BothBudgetsPassed (normal_of x).axes
  pub distinct : (byte ≡ 1) ↔ (¬ (BothBudgetsPassed (normal_of x).axes)) × (¬ (SharesOffset x.axes))
  pub repeated : (byte ≡ 2) ↔ (¬ (BothBudgetsPassed (normal_of x).axes)) × SharesOffset x.axes
