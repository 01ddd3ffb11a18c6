-- The product is in range, and its sum with the offset so far is out of it, or is the next one.
use Rattle.std.specs.Prelude.{Some, None}
use Rattle.std.proofs.Common.{◌≡◌, rules, arith}
use Rattle.std.proofs.lemmas.Result.{err_from_is_err_and}
use Rattle.view.specs.declared.layout.Refusal.TheVariants.{OutOfRange}
use Rattle.view.proofs.IndexedLaws.{sum-over, sum-fits}
use Rattle.view.proofs.offset.add_indexed.Goals as goal

pub returns-in_err-offset : goal.returns-in_err-offset
returns-in_err-offset c =
    let p = err_from_is_err_and c.from_residual-in_err-offset.result c.from_residual-in_err-offset.ensures.1 in
    let why : c.in_err-offset.field-0.0 ≡ OutOfRange = grind arith in
    let step : c.checked_mul.result ≡ Some c.in_ok-step.step = grind arith in
    let none : c.checked_add.result ≡ None = grind arith in
    rw (p.1, p.2, why) (sum-over _ _ _ _ (search rules) c.ranges.stride c.if-index.false c.checked_mul.ensures step c.checked_add.ensures none)

pub returns : goal.returns
returns c =
    let step : c.checked_mul.result ≡ Some c.in_ok-step.step = grind arith in
    let offset : c.checked_add.result ≡ Some c.in_ok-offset.offset = grind arith in
    sum-fits _ _ _ _ (search rules) c.ranges.stride c.if-index.false c.checked_mul.ensures step c.checked_add.ensures _ offset
