use Rattle.std.proofs.Common.{◌≡◌, ◌∙◌, sym, ap, subst, take, drop, length, ◌-◌, ℕ, List, Bor}
use Rattle.std.proofs.lemmas.List.{take_rest}
use Rattle.lines.proofs.Front.{Written, more_written, still_written}
use Rattle.lines.proofs.write.write_front.Goals.{in-Ok, in-Err}
use Rattle.lines.proofs.write.write_front.Goals as goal

pub loop-preserved : goal.loop-preserved
loop-preserved g c = elim c.match-write.branch [
  | in-Ok w ↦
      let rest = c.loop.rest.now in
      let left : c.match-write.rest.now ≡ take (length rest - w.in-Ok.written) (drop w.in-Ok.written rest) = ap (λ (r : Bor (List ℕ)). r.now) w.rest-is in
      subst (Written _ _ c.args.bytes.now) (sym (left ∙ take_rest rest w.in-Ok.written)) (more_written _ _ _ _ _ w.in-Ok.written c.loop.invariant w.in-Ok.ensures.bytes)
  | in-Err w ↦ subst (Written _ _ c.args.bytes.now) (ap (λ (r : Bor (List ℕ)). r.now) (sym w.rest-is)) (still_written _ _ _ _ _ c.loop.invariant w.in-Err.ensures.bytes)
]
