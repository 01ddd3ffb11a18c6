use Rattle.std.proofs.Common.{refl, rules, subst}
use Rattle.lines.specs.Pieces.{TakesPiece}
use Rattle.lines.proofs.SoFar.{at_line_feed, at_input, goes_on}
use Rattle.lines.proofs.line.Line.read.Goals as goal

pub returns-in-Feed : goal.returns-in-Feed
returns-in-Feed g c =
    let (piece, took, takes) = c.in_ok-take_piece.ensures.took in
    let read = at_line_feed _ _ _ _ _ piece c.loop.invariant.0 took (subst (TakesPiece _ _ piece) c.in-Feed.is takes) in
    record { kept = search rules; few = read.0.few; one_line = read.0.one_line; no_memory = search rules; more = read.1; line = read.0.held; rest = read.0.rest; last = search rules }

pub returns-in-Input : goal.returns-in-Input
returns-in-Input g c =
    let (piece, took, takes) = c.in_ok-take_piece.ensures.took in
    let read = at_input _ _ _ _ _ _ piece _ c.loop.invariant.0 took (subst (TakesPiece _ _ piece) c.in-Input.is takes) refl refl c.is_empty.ensures in
    record { kept = search rules; few = read.0.few; one_line = read.0.one_line; no_memory = search rules; more = read.1; line = read.0.held; rest = read.0.rest; last = λ _. read.2 }

pub loop-preserved : goal.loop-preserved
loop-preserved g c =
    let (piece, took, takes) = c.in_ok-take_piece.ensures.took in
    (goes_on _ _ _ _ _ piece c.loop.invariant.0 took (subst (TakesPiece _ _ piece) c.in-Shown.is takes), search rules)
