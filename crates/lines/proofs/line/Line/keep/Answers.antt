use Rattle.std.proofs.Common.{rules}
use Rattle.lines.proofs.Held.{took_more}
use Rattle.lines.proofs.line.Line.keep.Goals as goal

pub returns : goal.returns
returns c = took_more _ _ _ (search rules) (search rules) (search rules)
