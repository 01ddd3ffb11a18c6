-- The table holds the distances of the first part, and those of the second are looked up in it.
use Rattle.std.proofs.Common.{inl, inr, true≢false}
use Rattle.differences.specs.Differences.{Meets, in_first, in_second, in_both}
use Rattle.enumeration.specs.Parts.{MeetsNumbers}
use Rattle.enumeration.proofs.parts.meet.Goals as goal

pub returns-in-Some : goal.returns-in-Some
returns-in-Some c = (λ t. to (c.meets.ensures.0 t), λ m. c.meets.ensures.1 (from m))
  where
    to : MeetsNumbers c.args.second.now c.in-Some.table.numbers → Meets c.args.first.now c.args.second.now
    to (inl d) = in_second d
    to (inr m) = in_both m.0 ((c.in-Some.ensures.filled m.0).0 m.2) m.1

    from : Meets c.args.first.now c.args.second.now → MeetsNumbers c.args.second.now c.in-Some.table.numbers
    from (in_first d) = absurd (true≢false (c.in-Some.ensures.zero.1 d))
    from (in_second d) = inl d
    from (in_both n d g) = inr (n, g, (c.in-Some.ensures.filled n).1 d)
