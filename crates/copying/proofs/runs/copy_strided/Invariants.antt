use Rattle.std.specs.Prelude.{◌≡◌}
use Rattle.copying.specs.Copy.{copies}
use Rattle.positions.specs.Runs.{run_at}
use Rattle.copying.proofs.runs.copy_strided.Given as goal

-- both places are those of the next reading, and the readings before it are copied
abbrev pub invariant-loop-i : goal.invariant-loop-i
invariant-loop-i l =
    (l.place ≡ run_at l.source.place l.source.step l._i)
    × (l.into ≡ run_at l.destination.place l.destination.step l._i)
    × (l.to ≡ copies (run_at l.source.place l.source.step) (run_at l.destination.place l.destination.step) l.from l._i l.initial.to)
