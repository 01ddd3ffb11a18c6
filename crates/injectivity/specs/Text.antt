-- How a verdict is printed, byte by byte. Assumes nothing.
use Rattle.std.specs.Prelude.{List, ◌++◌, ℕ, codes}
use Rattle.std.specs.Fmt.{decimal}
use Rattle.specification.specs.Verdict.{Verdict, Distinct, Repeated, Undecided}
use Rattle.injectivity.specs.Judgement.{verdict_told}
use Rattle.injectivity.specs.declared.Judgement.{Judgement}

-- a verdict with its count
abbrev pub verdict_text : Verdict → ℕ → List ℕ
verdict_text Distinct count = codes "distinct " ++ decimal count
verdict_text Repeated count = codes "repeated " ++ decimal count
verdict_text Undecided count = codes "undecided 0"

-- a judgement with the count that it tells
abbrev pub judgement_text : Judgement → List ℕ
judgement_text judgement = verdict_text (verdict_told judgement).answer (verdict_told judgement).count
