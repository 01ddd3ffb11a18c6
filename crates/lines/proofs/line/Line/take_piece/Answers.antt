use Rattle.std.proofs.Common.{◌∙◌, ap, sym, refl, ◌+◌, subst, length, [], append-nil, rules}
use Rattle.std.specs.Io.BufRead.{FillKeeps}
use Rattle.lines.proofs.Taken.{takes_piece, count_with_end}
use Rattle.lines.specs.Lines.{Holds}
use mir.Val.{bool_byte}
use Rattle.lines.proofs.line.Line.take_piece.Goals as goal

pub returns-clause-took : goal.returns-clause-took
returns-clause-took g c =
    let shown = c.in-Ok.shown.now in
    let rested = c.fill_buf.follows.lender-at-none in
    let filled = subst (FillKeeps _ (g.R.Read.remaining rested) (g.R.BufRead.consumable_len rested)) c.in-Ok.is c.fill_buf.follows.holds-at-none in
    let piece = c.piece_of-end.ensures in
    let taken = takes_piece _ _ _ _ shown _ _ _ piece.one_line piece.front piece.input (ap (λ n. length c.piece_of-end.result.0.now + n) (c.from.ensures ∙ ap bool_byte c.eq-2.ensures) ∙ count_with_end c.piece_of-end.result.0.now c.piece_of-end.result.1) c.in-Ok.ensures.front c.in-Ok.ensures.end filled.0 filled.1 c.consume.ensures.bytes in
    (c.piece_of-end.result.0.now, record { held = λ read held. let more = c.keep.ensures.held read held in record { front = more.front; longer = more.longer }; last = c.keep.ensures.last }, taken)

pub returns-in-Err-clause-took : goal.returns-in-Err-clause-took
returns-in-Err-clause-took g c =
    ([], record { held = λ read held. subst (Holds c.args.self.now) (sym (append-nil read)) held; last = refl }, record { one_line = search rules; taken = search rules; input = λ ends. absurd (cc) })
